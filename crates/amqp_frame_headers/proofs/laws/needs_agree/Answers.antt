use Rattle.amqp_frame_headers.proofs.AnswerLemmas.{needs_agree}
use Rattle.amqp_frame_headers.proofs.laws.needs_agree.Goals as goal

pub returns : goal.returns
returns c = needs_agree
