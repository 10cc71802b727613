use Rattle.amqp_batches.specs.laws.ReadAs.{exactly}
use Rattle.amqp_batches.specs.laws.NamedAs.{of_input}
use Rattle.amqp_message_spellings.proofs.bodies_are_spelled.Goals as goal

pub returns-clause-exactly : goal.returns-clause-exactly
returns-clause-exactly g c = exactly g.met.B.DeserializableBody.is_read

pub returns-clause-refused : goal.returns-clause-refused
returns-clause-refused g c = of_input g.met.B.DeserializableBody.is_named
