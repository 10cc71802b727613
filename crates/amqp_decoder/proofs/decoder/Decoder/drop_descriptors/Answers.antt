use Rattle.std.proofs.Common.{arith, ◌≡◌, take, ap, ◌∙◌, subst, sym}
use Rattle.std.proofs.lemmas.List.{take-take}
use Rattle.amqp_wire.specs.Limits.{limit_of}
use Rattle.amqp_decoder.specs.Rooms.{IsRoomy}
use Rattle.amqp_decoder.proofs.Rows.{open_kept, stack_kept, same_view}
use Rattle.amqp_decoder.proofs.decoder.Decoder.drop_descriptors.Goals as goal

pub invariant_of-self : goal.invariant_of-self
invariant_of-self g c =
    let n = c.self.inside.top.last in
    let front : take n c.truncate.new.self.items ≡ take n c.self.inside.descriptors.items =
    ap (take n) (c.truncate.ensures.items ∙ ap (λ m. take m c.self.inside.descriptors.items) c.from.ensures)
    ∙ take-take n n c.self.inside.descriptors.items (omega arith) in (
      c.self.invariant.0,
      c.self.invariant.1,
      omega (arith, c.self.invariant.2),
      c.self.invariant.3,
      c.self.invariant.4,
      subst (IsRoomy c.self.inside.nesting c.self.inside.depth) (sym (open_kept _ _ (limit_of c.self.inside.bytes) n c.self.inside.top (omega arith) front)) c.self.invariant.5,
      c.self.invariant.6,
      c.self.invariant.7,
      c.self.invariant.8,
    )

pub returns : goal.returns
returns g c =
    let n = c.self.inside.top.last in
    let front : take n c.truncate.new.self.items ≡ take n c.self.inside.descriptors.items =
    ap (take n) (c.truncate.ensures.items ∙ ap (λ m. take m c.self.inside.descriptors.items) c.from.ensures)
    ∙ take-take n n c.self.inside.descriptors.items (omega arith) in
    same_view _ _ _ _ _ _ _ _ _ _ _ (open_kept _ _ _ n _ (omega arith) front) (stack_kept _ _ _ n _ _ n c.self.invariant.1 (omega arith) front)
    ∙ c.self.view_is
