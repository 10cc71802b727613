use Rattle.amqp_frame_headers.proofs.HeaderLemmas.{header_or_need, header_or_none, need_or_none}
use Rattle.amqp_frame_headers.proofs.laws.one_protocol_answer.Goals as goal

pub returns-clause-header_or_need : goal.returns-clause-header_or_need
returns-clause-header_or_need c = header_or_need

pub returns-clause-header_or_fault : goal.returns-clause-header_or_fault
returns-clause-header_or_fault c = header_or_none

pub returns-clause-need_or_fault : goal.returns-clause-need_or_fault
returns-clause-need_or_fault c = need_or_none
