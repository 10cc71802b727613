use Rattle.amqp_frame_headers.proofs.WrittenLemmas.{written_is_read}
use Rattle.amqp_frame_headers.proofs.laws.written_is_read.Goals as goal

pub returns : goal.returns
returns c = written_is_read
