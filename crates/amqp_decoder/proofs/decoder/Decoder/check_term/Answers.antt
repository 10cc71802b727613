use Rattle.amqp_wire.specs.declared.error.Error.TheVariants.{Size}
use Rattle.std.proofs.Common.{◌≡◌, false, ◌-◌, length, rules}
use Rattle.amqp_decoder.proofs.KeptTerms.{size_refused, term_refused_at}
use Rattle.amqp_decoder.proofs.NotOutside.{fails_by_length}
use Rattle.amqp_decoder.proofs.decoder.Decoder.check_term.Goals as goal

pub returns-in-Err-clause-goes : goal.returns-in-Err-clause-goes
returns-in-Err-clause-goes g c =
    fails_by_length false c.args.self.now c.stop_at.new.self c.stop_at.result c.in-Err.field-0.error _ c.args.self.now.nesting _ _
    c.depth_error.ensures.error (c.depth_error.ensures.limited) c.stop_at.ensures.answer c.stop_at.ensures.kept (_, c.in-Err.ensures.fault)

pub returns-in-Err-clause-err : goal.returns-in-Err-clause-err
returns-in-Err-clause-err g c = λ told began.
    term_refused_at (c.args.self.now.nesting - length c.args.self.now.saved) c.args.bytes.now c.args.self.now c.in-Err.field-0.at c.args.start
    c.stop_at.new.self c.in-Err.ensures.within c.stop_at.ensures.place began _ c.in-Err.field-0.error
    (rw c.nesting_left.ensures at c.in-Err.ensures.refused)
    (rw (c.nesting_left.ensures, c.depth_error.ensures.error) at c.in-Err.ensures.fault)
    (search rules) c.stop_at.ensures.answer c.stop_at.ensures.kept

pub returns-in-Err-Size-clause-err : goal.returns-in-Err-Size-clause-err
returns-in-Err-Size-clause-err g c = λ told began.
    let is_size : c.in-Err-Size.field-0.error ≡ Size = search rules in
    size_refused (c.args.self.now.nesting - length c.args.self.now.saved) c.args.bytes.now c.args.self.now c.in-Err-Size.field-0.at c.args.start
    c.refuse_size_at.new.self c.in-Err-Size.ensures.within c.refuse_size_at.ensures.place began _
    (rw (c.nesting_left.ensures, is_size) at c.in-Err-Size.ensures.refused)
    (rw (c.nesting_left.ensures, c.depth_error.ensures.error, is_size) at c.in-Err-Size.ensures.fault)
    (c.refuse_size_at.ensures.refused told)
