use Rattle.std.proofs.Common.{◌≡◌, take, get_or, refl, ap, ◌∙◌, arith}
use Rattle.std.proofs.lemmas.List.{length-take-le}
use Rattle.amqp_lengths.proofs.Rows.{no_bytes}
use Rattle.amqp_nodes.proofs.Told.{bare_told, described_told, term_some}
use Rattle.amqp_nodes.proofs.nodes.Node.of_term.Goals as goal
use Rattle.amqp_nodes.proofs.nodes.Node.of_term.Goals.{in_default-via-in-Some+else-code-ne-DESCRIBED, in_default-via-in_default}

pub returns-in-Some-clause-term : goal.returns-in-Some-clause-term
returns-in-Some-clause-term c =
    bare_told c.args.bytes.now c.in_ok-len.len c.args.at c.of_data.result c.in-Some.code.now c.in-Some.data.now c.in_ok-len.ensures.found
    c.in-Some.ensures.cases.0 c.if-code-ne-DESCRIBED.true c.of_data.ensures.term

pub returns-in_default-clause-term : goal.returns-in_default-clause-term
returns-in_default-clause-term c =
    let zero_ : get_or (take c.in_ok-len.len c.args.bytes.now) 0 0 ≡ 0 = elim c.in_default.branch [
      | in_default-via-in-Some+else-code-ne-DESCRIBED w ↦ ap (λ l. get_or l 0 0) w.in-Some.ensures.cases.0 ∙ w.if-code-ne-DESCRIBED.false
      | in_default-via-in_default w ↦ ap (λ l. get_or l 0 0) (no_bytes _ w.in_default.ensures.cases)
    ] in
    described_told c.args.bytes.now c.in_ok-len.len c.args.at _ c.in_ok-len.ensures.found zero_
    (record { kind = refl; code = refl; starts = refl; ends = refl; two = refl; no_items = refl; next = refl })

pub returns-in_default-clause-next : goal.returns-in_default-clause-next
returns-in_default-clause-next c =
    let found = c.in_ok-len.ensures.found in
    let some = term_some found.spelled.0 _ found.spelled.1 in
    omega (arith, some, length-take-le c.in_ok-len.len c.args.bytes.now found.within)
