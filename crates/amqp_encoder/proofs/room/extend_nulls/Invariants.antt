use Rattle.std.proofs.Common.{◌≡◌, ◌++◌, replicate}
use Rattle.std.specs.Vec.{vec_capacity}
use Rattle.amqp_encoder.proofs.room.extend_nulls.Given as goal

abbrev pub invariant-loop : goal.invariant-loop
invariant-loop l = (l.out.items ≡ l.initial.out.items ++ replicate l.counter 0x40) × (vec_capacity l.out ≡ vec_capacity l.initial.out)
