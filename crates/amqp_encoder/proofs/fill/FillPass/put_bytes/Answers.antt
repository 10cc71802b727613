use Rattle.std.proofs.Common.{sym}
use Rattle.amqp_encoder.proofs.Settled.{filled, from_take, instead}
use Rattle.amqp_encoder.proofs.fill.FillPass.put_bytes.Goals as goal

pub returns-clause-passes : goal.returns-clause-passes
returns-clause-passes g c p h = filled _ _ _ _ (instead _ _ _ _ (sym (h.filled _)) c.fill_bytes.ensures.does)

pub returns-clause-kept : goal.returns-clause-kept
returns-clause-kept g c = from_take _ _ c.fill_bytes.ensures.kept
