use Rattle.std.proofs.Common.{rules, sym, subst}
use Rattle.amqp_decoder.specs.Reserve.{Spares}
use Rattle.amqp_decoder.proofs.Steps.{short_of_room, stopped_for_room}
use Rattle.amqp_decoder.proofs.Reserve.{spares_lowered}
use Rattle.amqp_decoder.proofs.decoder.Decoder.lower.Goals as goal

pub returns-then-not-has_left-clause-err : goal.returns-then-not-has_left-clause-err
returns-then-not-has_left-clause-err g c = λ told.
    short_of_room _ _ _ _ (λ h. let x = c.has_left.ensures.1 h in absurd (cc)) (c.refuse_size.ensures.refused told)

pub returns-then-not-has_left-clause-full : goal.returns-then-not-has_left-clause-full
returns-then-not-has_left-clause-full g c = λ told.
    stopped_for_room _ _ _ _ (λ h. let x = c.has_left.ensures.1 h in absurd (cc)) (c.refuse_size.ensures.refused told)

pub returns-clause-spares : goal.returns-clause-spares
returns-clause-spares g c = λ told.
    subst (Spares g.R.ByteSource.reserve c.args.count) (sym c.take_left.ensures.new)
    (spares_lowered g.R.ByteSource.reserve c.args.count c.args.self.now (c.has_left.ensures.0 (search rules)) (c.spares.ensures told))
