use Rattle.amqp_encoder.specs.Tokens.{nulls}
use Rattle.amqp_encoder.specs.Writes.{Writes}
use Rattle.amqp_encoder.specs.Passes.{answer_of}
use Rattle.amqp_encoder.proofs.encoder.Encoder.write_nulls_apart.Given as goal

abbrev pub invariant-loop : goal.invariant-loop
invariant-loop g l = Writes l.initial.self (nulls l.counter) (answer_of l.self) l.self
