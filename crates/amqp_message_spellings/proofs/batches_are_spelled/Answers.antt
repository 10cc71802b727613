use Rattle.amqp_batches.specs.laws.ReadAs.{exactly}
use Rattle.amqp_batches.specs.laws.SpelledGroups.{batch_is_read}
use Rattle.amqp_batches.specs.laws.NamedAs.{of_input, batch_named}
use Rattle.amqp_message_spellings.proofs.batches_are_spelled.Goals as goal

pub returns-clause-exactly : goal.returns-clause-exactly
returns-clause-exactly g c = exactly (batch_is_read g.T.BatchItem.code g.T.DeserializeTerm.term)

pub returns-clause-refused : goal.returns-clause-refused
returns-clause-refused g c = of_input (batch_named g.T.BatchItem.code g.T.DeserializeTerm.term)
