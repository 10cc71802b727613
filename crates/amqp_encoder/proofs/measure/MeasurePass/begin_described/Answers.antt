use Rattle.amqp_encoder.proofs.Settled.{measured}
use Rattle.amqp_encoder.proofs.measure.MeasurePass.begin_described.Goals as goal

pub returns-clause-passes : goal.returns-clause-passes
returns-clause-passes c = measured _ _ _ _ c.measure_begin_described.ensures
