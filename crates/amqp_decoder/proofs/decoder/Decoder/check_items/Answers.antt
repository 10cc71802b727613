use Rattle.std.proofs.Common.{arith, ◌≤◌, ◌<◌, inl, inr, length, refl}
use Rattle.amqp_decoder.proofs.Rows.{length-stack}
use Rattle.amqp_decoder.proofs.decoder.Decoder.check_items.Goals as goal

pub returns-then-is_flat-clause-ok : goal.returns-then-is_flat-clause-ok
returns-then-is_flat-clause-ok g c = (inl c.if-is_flat.true, refl)

pub returns-then-self-clause-err : goal.returns-then-self-clause-err
returns-then-self-clause-err g c =
    let deep : c.args.self.now.nesting < length c.args.self.now.saved = rw (← c.self.view_is, length-stack) (omega arith) in
    (c.if-is_flat.false, c.refuse_depth_at.ensures.answer, deep, c.refuse_depth_at.ensures.kept)

pub returns-clause-ok : goal.returns-clause-ok
returns-clause-ok g c =
    let few : length c.args.self.now.saved ≤ c.args.self.now.nesting = rw (← c.self.view_is, length-stack) (omega arith) in
    (inr few, refl)
