use Rattle.std.proofs.Common.{sym, ap}
use Rattle.amqp_encoder.specs.State.{seen}
use Rattle.amqp_encoder.proofs.Composites.{composite_ended}
use Rattle.amqp_encoder.proofs.measure.MeasurePass.end_composite.Goals as goal

pub returns-clause-passes : goal.returns-clause-passes
returns-clause-passes c =
    rw (← c.self.view_is) (composite_ended _ _ (seen c.in-Some.described) _ _ _ c.in-Some.ensures.some (sym c.if-is_container.ensures)
    (rw (← c.len.ensures) c.if-inner-len.true) c.leave_composite.ensures)
