use Rattle.amqp_encoder.proofs.Settled.{measured, at_most}
use Rattle.amqp_encoder.proofs.measure.MeasurePass.keep.Goals as goal

pub returns-clause-passes : goal.returns-clause-passes
returns-clause-passes c = measured _ _ _ _ (at_most _ _ _ _ c.measure_keep.ensures)
