use Rattle.amqp_frame_headers.proofs.HeaderLemmas.{header_written}
use Rattle.amqp_frame_headers.proofs.laws.protocol_header_is_read.Goals as goal

pub returns : goal.returns
returns c = header_written
