use Rattle.std.proofs.Common.{refl}
use Rattle.amqp_encoder.proofs.Settled.{measured, at_most, instead}
use Rattle.amqp_encoder.proofs.Spelled.{measured_fixed}
use Rattle.amqp_encoder.proofs.measure.MeasurePass.put.Goals as goal

pub returns-clause-passes : goal.returns-clause-passes
returns-clause-passes c p h =
    measured _ _ _ _ (at_most _ _ _ _
    (instead _ _ _ _ (measured_fixed p c.args.shortest c.args.wide.now _ c.args.self.now h refl) c.measure_fixed.ensures))
