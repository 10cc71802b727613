use Rattle.amqp_frame_headers.proofs.FrameLemmas.{one_frame}
use Rattle.amqp_frame_headers.proofs.laws.one_frame.Goals as goal

pub returns : goal.returns
returns c = one_frame
