use Rattle.std.proofs.Common.{◌≡◌, ◌<◌, ◌^◌, ◌++◌, codes, Some, arith, ◌∙◌}
use Rattle.std.specs.Fmt.{decimal}
use Rattle.std.proofs.lemmas.Bool.Decides.{Decides-eqb}
use Rattle.std.proofs.lemmas.Slice.Eq.{strip_prefix_is}
use Rattle.amqp_lines.proofs.SetLimits.{there_is_a_space, its_numbers, last_two, parts, numbers, one_number, joined, limits_made}
use Rattle.amqp_lines.proofs.limits.limits_of.Goals as goal

pub returns-in_err-nesting : goal.returns-in_err-nesting
returns-in_err-nesting c =
    rw c.from_residual-in_err-nesting.ensures (λ limits h. there_is_a_space c.in_ok-numbers.numbers.now (last_two limits) limits.nesting
    (its_numbers c.args.line.now c.in_ok-numbers.numbers.now limits c.in_ok-numbers.ensures.cases.1 h) c.in_err-nesting.ensures)

pub returns-in_err-bytes : goal.returns-in_err-bytes
returns-in_err-bytes c =
    let p = parts _ _ _ _ c.in_ok-numbers.ensures.cases.1 c.in_ok-nesting.ensures in
    rw c.from_residual-in_err-bytes.ensures (λ limits h. there_is_a_space c.in_ok-nesting.others.now (decimal limits.items) limits.bytes
    (p.rest limits h) c.in_err-bytes.ensures)

pub returns-in_err-number : goal.returns-in_err-number
returns-in_err-number c =
    let p = parts _ _ _ _ c.in_ok-numbers.ensures.cases.1 c.in_ok-nesting.ensures in
    rw c.from_residual-in_err-number.ensures
    (λ limits h. c.in_err-number.ensures limits.nesting (p.first limits h, let most = limits.nests in omega (arith, most)))

pub returns-in_err-number-in-Ok : goal.returns-in_err-number-in-Ok
returns-in_err-number-in-Ok c =
    let p = parts _ _ _ _ c.in_ok-numbers.ensures.cases.1 c.in_ok-nesting.ensures in
    let n = numbers _ _ _ _ _ _ p c.in_ok-bytes.ensures in
    rw c.from_residual-in_err-number-in-Ok.ensures (λ limits h. c.in_err-number-in-Ok.ensures limits.bytes (n.second limits h))

pub returns-in_err-number-in-Ok-2 : goal.returns-in_err-number-in-Ok-2
returns-in_err-number-in-Ok-2 c =
    let p = parts _ _ _ _ c.in_ok-numbers.ensures.cases.1 c.in_ok-nesting.ensures in
    let n = numbers _ _ _ _ _ _ p c.in_ok-bytes.ensures in
    rw c.from_residual-in_err-number-in-Ok-2.ensures (λ limits h. c.in_err-number-in-Ok-2.ensures limits.items (n.third limits h))

pub returns-in_ok-number-in-Ok-2 : goal.returns-in_ok-number-in-Ok-2
returns-in_ok-number-in-Ok-2 c =
    let p = parts c.args.line.now c.in_ok-numbers.numbers.now c.in_ok-nesting.nesting.now c.in_ok-nesting.others.now
    c.in_ok-numbers.ensures.cases.1 c.in_ok-nesting.ensures in
    let all = c.in_ok-numbers.numbers in
    let begins : c.args.line.now ≡ codes "limits " ++ all.now =
    strip_prefix_is Decides-eqb c.args.line.now (codes "limits ") (Some all) c.in_ok-numbers.ensures.cases in
    let first = c.in_ok-number in
    let same : c.in-Ok.nesting ≡ first.field-0 = omega (arith, c.in-Ok.ensures) in
    limits_made c.args.line.now c.new.result c.in-Ok.nesting c.in_ok-number-in-Ok.field-0 c.in_ok-number-in-Ok-2.field-0 c.new.ensures
    (λ limits h. same ∙ one_number _ _ limits.nesting first.ensures (p.first limits h) (let most = limits.nests in omega (arith, most)))
    (joined c.args.line.now all.now c.in_ok-nesting.nesting.now c.in_ok-nesting.others.now c.in_ok-bytes.bytes.now c.in_ok-bytes.items.now
    c.in-Ok.nesting c.in_ok-number-in-Ok.field-0 c.in_ok-number-in-Ok-2.field-0 begins c.in_ok-nesting.ensures c.in_ok-bytes.ensures
    (rw same first.ensures) c.in_ok-number-in-Ok.ensures c.in_ok-number-in-Ok-2.ensures)
    c.in_ok-number-in-Ok.ensures.1 c.in_ok-number-in-Ok-2.ensures.1

pub returns-in-Err : goal.returns-in-Err
returns-in-Err c limits h =
    let p = parts c.args.line.now c.in_ok-numbers.numbers.now c.in_ok-nesting.nesting.now c.in_ok-nesting.others.now
    c.in_ok-numbers.ensures.cases.1 c.in_ok-nesting.ensures in
    let most = limits.nests in
    let small : limits.nesting < 10 ^ 19 = omega (arith, most) in
    c.in-Err.ensures (omega (arith, one_number _ _ limits.nesting c.in_ok-number.ensures (p.first limits h) small, most))
