use Rattle.amqp_frame_headers.proofs.AnswerLemmas.{prefix_needs_more}
use Rattle.amqp_frame_headers.proofs.laws.prefix_needs_more.Goals as goal

pub returns : goal.returns
returns c = prefix_needs_more
