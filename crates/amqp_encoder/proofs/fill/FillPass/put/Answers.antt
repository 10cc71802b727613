use Rattle.amqp_encoder.proofs.Settled.{filled, from_take, instead}
use Rattle.amqp_encoder.proofs.Spelled.{filled_fixed}
use Rattle.amqp_encoder.proofs.fill.FillPass.put.Goals as goal

pub returns-clause-passes : goal.returns-clause-passes
returns-clause-passes g c p h =
    filled _ _ _ _ (instead _ _ _ _ (filled_fixed p c.args.shortest c.args.wide.now c.args.self.now h) c.fill_fixed.ensures.does)

pub returns-clause-kept : goal.returns-clause-kept
returns-clause-kept g c = from_take _ _ c.fill_fixed.ensures.kept
