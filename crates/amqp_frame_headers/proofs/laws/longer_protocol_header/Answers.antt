use Rattle.amqp_frame_headers.proofs.HeaderLemmas.{header_longer, no_header_longer}
use Rattle.amqp_frame_headers.proofs.laws.longer_protocol_header.Goals as goal

pub returns-clause-header : goal.returns-clause-header
returns-clause-header c = header_longer

pub returns-clause-fault : goal.returns-clause-fault
returns-clause-fault c = no_header_longer
