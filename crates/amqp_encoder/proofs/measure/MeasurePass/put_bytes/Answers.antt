use Rattle.std.proofs.Common.{sym}
use Rattle.amqp_encoder.proofs.Settled.{measured, at_most, instead}
use Rattle.amqp_encoder.proofs.measure.MeasurePass.put_bytes.Goals as goal

pub returns-clause-passes : goal.returns-clause-passes
returns-clause-passes c p h = measured _ _ _ _ (at_most _ _ _ _ (instead _ _ _ _ (sym (h.measured _)) c.measure_bytes.ensures))
