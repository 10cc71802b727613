use Rattle.std.proofs.Common.{subst, arith}
use Rattle.amqp_lengths.specs.Faults.{TermFault}
use Rattle.amqp_lengths.proofs.Places.{term_within}
use Rattle.amqp_lengths.proofs.RefusedBytes.{fault_refuses}
use Rattle.amqp_lengths.proofs.lengths.len_of_term_located.Goals as goal

pub returns-in-Err-clause-refused : goal.returns-in-Err-clause-refused
returns-in-Err-clause-refused c =
    fault_refuses c.args.nesting c.args.input.now c.in-Err.error (c.walk_term.new.left, c.in-Err.ensures.fault)

pub returns-in-Err-clause-fault : goal.returns-in-Err-clause-fault
returns-in-Err-clause-fault c =
    let few = term_within c.args.nesting c.args.input.now c.in-Err.error c.walk_term.new.left c.in-Err.ensures.fault in
    subst (TermFault c.args.deep c.args.nesting c.args.input.now c.in-Err.error) (omega (arith, few, c.saturating_sub.ensures))
    c.in-Err.ensures.fault
