use Rattle.amqp_placed.proofs.Headers.{header_shown, properties_shown, message_id_shown}
use Rattle.amqp_placed.proofs.laws.message_headers.Goals as goal

pub returns-clause-header : goal.returns-clause-header
returns-clause-header c = header_shown

pub returns-clause-properties : goal.returns-clause-properties
returns-clause-properties c = properties_shown

pub returns-clause-identifier : goal.returns-clause-identifier
returns-clause-identifier c = message_id_shown
