use Rattle.amqp_lengths.proofs.RefusedBytes.{fault_refuses}
use Rattle.amqp_lengths.proofs.DeeperFaults.{fault_deeper}
use Rattle.amqp_lengths.proofs.laws.faults.Goals as goal

pub returns-clause-refuse : goal.returns-clause-refuse
returns-clause-refuse c = λ deep. fault_refuses

pub returns-clause-deeper : goal.returns-clause-deeper
returns-clause-deeper c = fault_deeper
