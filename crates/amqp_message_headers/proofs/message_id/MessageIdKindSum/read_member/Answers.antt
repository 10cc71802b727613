use Rattle.amqp_message_headers.specs.MessageIds.{id_others}
use Rattle.amqp_message_headers.proofs.message_id.MessageIdKindSum.read_member.Goals as goal

pub returns-in-Ulong-clause-read : goal.returns-in-Ulong-clause-read
returns-in-Ulong-clause-read g c tells = rw c.in-Ulong.is (c.read_as.ensures.read tells)

pub returns-in-Uuid-clause-read : goal.returns-in-Uuid-clause-read
returns-in-Uuid-clause-read g c tells = rw c.in-Uuid.is (c.read_as-in-Uuid.ensures.read tells)

pub returns-in-Binary-clause-read : goal.returns-in-Binary-clause-read
returns-in-Binary-clause-read g c tells = rw c.in-Binary.is (c.read_as-in-Binary.ensures.read tells)

pub returns-in_default-clause-read : goal.returns-in_default-clause-read
returns-in_default-clause-read g c tells =
    let others = c.in_default in
    rw (id_others _ others.not-Ulong others.not-Uuid others.not-Binary) (c.read_as-in_default.ensures.read tells)
