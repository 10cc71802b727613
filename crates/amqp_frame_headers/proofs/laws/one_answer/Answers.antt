use Rattle.amqp_frame_headers.proofs.AnswerLemmas.{one_fault, one_need, frame_or_fault, frame_or_need, need_or_fault}
use Rattle.amqp_frame_headers.proofs.laws.one_answer.Goals as goal

pub returns-clause-one_fault : goal.returns-clause-one_fault
returns-clause-one_fault c = one_fault

pub returns-clause-one_need : goal.returns-clause-one_need
returns-clause-one_need c = one_need

pub returns-clause-frame_or_fault : goal.returns-clause-frame_or_fault
returns-clause-frame_or_fault c = frame_or_fault

pub returns-clause-frame_or_need : goal.returns-clause-frame_or_need
returns-clause-frame_or_need c = frame_or_need

pub returns-clause-need_or_fault : goal.returns-clause-need_or_fault
returns-clause-need_or_fault c = need_or_fault
