use Rattle.amqp_encoder.proofs.Composites.{composite_begun}
use Rattle.amqp_encoder.proofs.measure.MeasurePass.begin_composite.Goals as goal

pub returns-then-has_two_places-clause-passes : goal.returns-then-has_two_places-clause-passes
returns-then-has_two_places-clause-passes c =
    composite_begun _ _ _ _ c.if-is_plain.ensures c.if-code-gt0.true c.if-code-lt256.true
    (rw (← c.self.view_is) c.if-has_two_places.ensures) c.begin_plain_composite.ensures.opened c.begin_plain_composite.ensures.memory
