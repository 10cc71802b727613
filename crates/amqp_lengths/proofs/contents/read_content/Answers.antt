use Rattle.std.proofs.Common.{◌≡◌, length, ap, arith}
use Rattle.std.proofs.lemmas.Result.{err_from_is_err_and}
use Rattle.amqp_wire.specs.Containers.{container_of}
use Rattle.amqp_lengths.proofs.Holds.{content_short, content_small_none, is_a_list}
use Rattle.amqp_lengths.proofs.Faults.{content_cut, content_short_size, content_no_count, content_count}
use Rattle.amqp_lengths.proofs.contents.read_content.Goals as goal

pub returns-in_err-body-clause-refused : goal.returns-in_err-body-clause-refused
returns-in_err-body-clause-refused c =
    let p = err_from_is_err_and c.from_residual.result c.from_residual.ensures.1 in
    rw (p.1, p.2) (content_short _ _ _ _ c.in_err-body.ensures.refused)

pub returns-in_err-body-clause-fault : goal.returns-in_err-body-clause-fault
returns-in_err-body-clause-fault c =
    let p = err_from_is_err_and c.from_residual.result c.from_residual.ensures.1 in
    rw (p.1, p.2) (content_cut _ _ _ _ c.in_err-body.ensures.fault)

pub returns-then-not-is_empty-clause-refused : goal.returns-then-not-is_empty-clause-refused
returns-then-not-is_empty-clause-refused c =
    content_small_none _ _ _ _ _ _ c.in_ok-body.ensures.found (omega arith)
    (λ h. let l : length c.in_ok-body.body.now ≡ 0 = h.1 in grind arith)

pub returns-then-not-is_empty-clause-fault : goal.returns-then-not-is_empty-clause-fault
returns-then-not-is_empty-clause-fault c =
    content_short_size _ _ _ _ _ c.in_ok-body.ensures.found (omega arith)
    (λ h. let l : length c.in_ok-body.body.now ≡ 0 = h.1 in grind arith)

pub returns-in_default-clause-refused : goal.returns-in_default-clause-refused
returns-in_default-clause-refused c =
    content_small_none _ _ _ _ _ _ c.in_ok-body.ensures.found (omega arith) (λ h. c.in_default.not-List (is_a_list c.args.container h.0))

pub returns-in_default-clause-fault : goal.returns-in_default-clause-fault
returns-in_default-clause-fault c =
    content_short_size _ _ _ _ _ c.in_ok-body.ensures.found (omega arith) (λ h. c.in_default.not-List (is_a_list c.args.container h.0))

pub returns-in_err-number-2-clause-fault : goal.returns-in_err-number-2-clause-fault
returns-in_err-number-2-clause-fault c =
    let p = err_from_is_err_and c.from_residual-in_err-number-2.result c.from_residual-in_err-number-2.ensures.1 in
    let empty : length c.in_ok-body.body.now ≡ 0 = grind arith in
    rw (p.1, p.2) (content_no_count _ _ c.width_of-width.result _ _ _ _ (ap container_of c.in-List.is) c.in_ok-body.ensures.found empty
    (omega arith) c.in_err-number-2.ensures.refused)

pub returns-then-branch-gt0-clause-fault : goal.returns-then-branch-gt0-clause-fault
returns-then-branch-gt0-clause-fault c =
    let empty : length c.in_ok-body.body.now ≡ 0 = grind arith in
    content_count _ _ c.width_of-width.result _ _ _ _ (ap container_of c.in-List.is) c.in_ok-body.ensures.found empty (omega arith)
    c.in_ok-number-2.ensures.found c.if-branch-gt0.true
