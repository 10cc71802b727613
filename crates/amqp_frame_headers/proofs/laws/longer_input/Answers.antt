use Rattle.amqp_frame_headers.proofs.FrameLemmas.{frame_longer, fault_longer}
use Rattle.amqp_frame_headers.proofs.laws.longer_input.Goals as goal

pub returns-clause-frame : goal.returns-clause-frame
returns-clause-frame c = frame_longer

pub returns-clause-fault : goal.returns-clause-fault
returns-clause-fault c = fault_longer
