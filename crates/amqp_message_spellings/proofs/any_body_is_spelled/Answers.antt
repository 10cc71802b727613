use Rattle.amqp_batches.specs.laws.ReadAs.{exactly}
use Rattle.amqp_batches.specs.laws.NamedAs.{of_input}
use Rattle.amqp_bodies.specs.SpelledReading.{any_body_is_read}
use Rattle.amqp_bodies.specs.NamedFaults.{any_body_named}
use Rattle.amqp_message_spellings.proofs.any_body_is_spelled.Goals as goal

pub returns-clause-exactly : goal.returns-clause-exactly
returns-clause-exactly g c = exactly (any_body_is_read _ _ _)

pub returns-clause-refused : goal.returns-clause-refused
returns-clause-refused g c = of_input (any_body_named _ _ _)
