use Rattle.std.proofs.Common.{arith}
use Rattle.std.proofs.lemmas.Result.{err_from_is_err_and}
use Rattle.amqp_lengths.proofs.Codes.{fixed_at, sized_at}
use Rattle.amqp_lengths.proofs.Values.{fixed_short, fixed_bad, sized_short, sized_bad}
use Rattle.amqp_lengths.proofs.Faults.{fixed_cut, fixed_no_value, variable_cut, variable_no_value}
use Rattle.amqp_lengths.proofs.primitives.primitive_len.Goals as goal

pub returns-in_err-fixed-clause-refused : goal.returns-in_err-fixed-clause-refused
returns-in_err-fixed-clause-refused c =
    let p = err_from_is_err_and c.from_residual.result c.from_residual.ensures.1 in
    let at = fixed_at c.args.code (omega arith) c.requires in
    rw (p.1, p.2) (fixed_short _ _ at.0 _ _ at.1 (rw c.fixed_width-width.ensures at c.in_err-fixed.ensures.refused))

pub returns-in_err-check_value-clause-refused : goal.returns-in_err-check_value-clause-refused
returns-in_err-check_value-clause-refused c =
    let p = err_from_is_err_and c.from_residual-in_err-check_value.result c.from_residual-in_err-check_value.ensures.1 in
    let at = fixed_at c.args.code (omega arith) c.requires in
    let found = rw c.fixed_width-width.ensures at c.in_ok-fixed.ensures.found in
    rw (p.1, p.2) (fixed_bad _ _ at.0 _ _ at.1 found.0 (rw found.1 at c.in_err-check_value.ensures.refused))

pub returns-in_err-content-clause-refused : goal.returns-in_err-content-clause-refused
returns-in_err-content-clause-refused c =
    let p = err_from_is_err_and c.from_residual-in_err-content.result c.from_residual-in_err-content.ensures.1 in
    let at = sized_at c.args.code (omega arith) c.requires in
    rw (p.1, p.2) (sized_short _ _ at.0 _ _ at.1 c.in_err-content.ensures.refused)

pub returns-in_err-check_value-2-clause-refused : goal.returns-in_err-check_value-2-clause-refused
returns-in_err-check_value-2-clause-refused c =
    let p = err_from_is_err_and c.from_residual-in_err-check_value-2.result c.from_residual-in_err-check_value-2.ensures.1 in
    let at = sized_at c.args.code (omega arith) c.requires in
    rw (p.1, p.2) (sized_bad _ _ at.0 _ _ _ _ at.1 c.in_ok-content.ensures.found c.in_err-check_value-2.ensures.refused)

pub returns-in_err-fixed-clause-fault : goal.returns-in_err-fixed-clause-fault
returns-in_err-fixed-clause-fault c =
    let p = err_from_is_err_and c.from_residual.result c.from_residual.ensures.1 in
    let at = fixed_at c.args.code (omega arith) c.requires in
    rw (p.1, p.2) (fixed_cut _ _ at.0 _ _ at.1 (rw c.fixed_width-width.ensures at c.in_err-fixed.ensures.refused))

pub returns-in_err-check_value-clause-fault : goal.returns-in_err-check_value-clause-fault
returns-in_err-check_value-clause-fault c =
    let p = err_from_is_err_and c.from_residual-in_err-check_value.result c.from_residual-in_err-check_value.ensures.1 in
    let at = fixed_at c.args.code (omega arith) c.requires in
    let found = rw c.fixed_width-width.ensures at c.in_ok-fixed.ensures.found in
    rw (p.1, p.2) (fixed_no_value _ _ at.0 _ _ at.1 found.0 (rw found.1 at c.in_err-check_value.ensures.fault))

pub returns-in_err-content-clause-fault : goal.returns-in_err-content-clause-fault
returns-in_err-content-clause-fault c =
    let p = err_from_is_err_and c.from_residual-in_err-content.result c.from_residual-in_err-content.ensures.1 in
    let at = sized_at c.args.code (omega arith) c.requires in
    rw (p.1, p.2) (variable_cut _ _ at.0 _ _ at.1 c.in_err-content.ensures.fault)

pub returns-in_err-check_value-2-clause-fault : goal.returns-in_err-check_value-2-clause-fault
returns-in_err-check_value-2-clause-fault c =
    let p = err_from_is_err_and c.from_residual-in_err-check_value-2.result c.from_residual-in_err-check_value-2.ensures.1 in
    let at = sized_at c.args.code (omega arith) c.requires in
    rw (p.1, p.2) (variable_no_value _ _ at.0 _ _ _ _ at.1 c.in_ok-content.ensures.found c.in_err-check_value-2.ensures.fault)
