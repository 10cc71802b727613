use Rattle.amqp_encoder.proofs.Settled.{measured, at_most, instead}
use Rattle.amqp_encoder.proofs.Spelled.{measured_symbol}
use Rattle.amqp_encoder.proofs.measure.MeasurePass.put_symbol.Goals as goal

pub returns-clause-passes : goal.returns-clause-passes
returns-clause-passes c =
    measured _ _ _ _ (at_most _ _ _ _ (instead _ _ _ _ (measured_symbol c.args.text.now c.args.self.now) c.measure_symbol.ensures))
