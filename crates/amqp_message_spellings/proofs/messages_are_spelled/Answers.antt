use Rattle.amqp_batches.specs.laws.ReadAs.{IsReadAs, exactly}
use Rattle.amqp_batches.specs.laws.NamedAs.{IsNamedAs, of_input}
use Rattle.amqp_bodies.specs.ReadsAs.{read_as, named_as}
use Rattle.amqp_messages.specs.laws.MessageSpelled.{message_is_read, strict_is_read}
use Rattle.amqp_message_spellings.proofs.MessageFaults.{message_named, strict_named}
use Rattle.amqp_message_spellings.proofs.messages_are_spelled.Goals as goal

pub returns-clause-any : goal.returns-clause-any
returns-clause-any g c =
    exactly (message_is_read g.B.FromBody.made (read_as g.met.B.FromBody.group_is g.met.B.Body.DeserializableBody.is_read))

pub returns-clause-refused : goal.returns-clause-refused
returns-clause-refused g c =
    of_input (message_named g.B.FromBody.made (read_as g.met.B.FromBody.group_is g.met.B.Body.DeserializableBody.is_read)
    (named_as g.met.B.FromBody.group_is g.met.B.Body.DeserializableBody.is_named))

pub returns-clause-strict : goal.returns-clause-strict
returns-clause-strict g c =
    exactly (strict_is_read g.B.FromBody.made (read_as g.met.B.FromBody.group_is g.met.B.Body.DeserializableBody.is_read))

pub returns-clause-strictly_refused : goal.returns-clause-strictly_refused
returns-clause-strictly_refused g c =
    of_input (strict_named g.B.FromBody.made (read_as g.met.B.FromBody.group_is g.met.B.Body.DeserializableBody.is_read)
    (named_as g.met.B.FromBody.group_is g.met.B.Body.DeserializableBody.is_named))
