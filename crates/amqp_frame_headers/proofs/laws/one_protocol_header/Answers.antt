use Rattle.amqp_frame_headers.proofs.HeaderLemmas.{one_header}
use Rattle.amqp_frame_headers.proofs.laws.one_protocol_header.Goals as goal

pub returns : goal.returns
returns c = one_header
