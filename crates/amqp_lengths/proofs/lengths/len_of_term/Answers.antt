use Rattle.amqp_lengths.proofs.Faults.{err_map}
use Rattle.amqp_lengths.proofs.RefusedBytes.{fault_refuses}
use Rattle.amqp_lengths.proofs.lengths.len_of_term.Goals as goal

pub returns-clause-refused : goal.returns-clause-refused
returns-clause-refused c = err_map _ _ c.walk_term.result (λ e f. fault_refuses c.args.nesting c.args.input.now e (c.walk_term.new.left, f)) c.walk_term.ensures.fault

pub returns-clause-fault : goal.returns-clause-fault
returns-clause-fault c = err_map _ _ c.walk_term.result (λ e f. (c.walk_term.new.left, f)) c.walk_term.ensures.fault
