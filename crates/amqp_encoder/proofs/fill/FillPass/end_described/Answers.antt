use Rattle.amqp_encoder.proofs.Settled.{filled, from_take}
use Rattle.amqp_encoder.proofs.fill.FillPass.end_described.Goals as goal

pub returns-clause-passes : goal.returns-clause-passes
returns-clause-passes g c = filled _ _ _ _ c.fill_end.ensures.does

pub returns-clause-kept : goal.returns-clause-kept
returns-clause-kept g c = from_take _ _ c.fill_end.ensures.kept
