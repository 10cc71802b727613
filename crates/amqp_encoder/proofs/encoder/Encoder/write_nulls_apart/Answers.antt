use Rattle.std.proofs.Common.{refl}
use Rattle.amqp_encoder.proofs.Joined.{nothing}
use Rattle.amqp_encoder.proofs.Settled.{one_null_more}
use Rattle.amqp_encoder.proofs.encoder.Encoder.write_nulls_apart.Goals as goal

pub loop-init : goal.loop-init
loop-init g c = nothing _ _ refl

pub loop-preserved : goal.loop-preserved
loop-preserved g c = one_null_more _ _ _ _ c.loop.invariant c.write_null_apart.ensures
