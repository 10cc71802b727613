use Rattle.std.proofs.Common.{rules, ◌≡◌, ◌-◌, ◌∷◌, length, take, drop, sym, ap, ◌∙◌, arith}
use Rattle.std.proofs.lemmas.List.{length-drop}
use Rattle.amqp_lengths.proofs.Fronts.{tail_is, tail_all}
use Rattle.amqp_nodes.proofs.Shared.{left_less, left_never, left_code, left_some}
use Rattle.amqp_nodes.proofs.nodes.shared_code.Goals as goal

pub returns-then-code-ne-DESCRIBED-clause-found : goal.returns-then-code-ne-DESCRIBED-clause-found
returns-then-code-ne-DESCRIBED-clause-found c =
    left_code c.args.bytes.now c.in-Some.rest.now c.loop-code.len c.in-Some.code.now c.loop-code.invariant.left
    (tail_is c.loop-code.len c.args.bytes.now _ c.in-Some.ensures.cases.0) c.if-code-ne-DESCRIBED.true

pub loop-code-preserved : goal.loop-code-preserved
loop-code-preserved c =
    let at : drop c.loop-code.len c.args.bytes.now ≡ 0 ∷ c.in-Some.rest.now =
    tail_is c.loop-code.len c.args.bytes.now _ c.in-Some.ensures.cases.0 ∙ ap (λ z. z ∷ c.in-Some.rest.now) c.if-code-ne-DESCRIBED.false in
    let found = c.in-Ok.ensures.found.within in
    record {
      within = omega (arith, ap length at, found, length-drop c.loop-code.len c.args.bytes.now);
      left = left_less c.args.bytes.now c.in-Some.rest.now c.loop-code.len c.in-Ok.descriptor c.loop-code.invariant.left at
          c.in-Ok.ensures.found;
    }

pub returns-in-Err-clause-found : goal.returns-in-Err-clause-found
returns-in-Err-clause-found c =
    let at : drop c.loop-code.len c.args.bytes.now ≡ 0 ∷ c.in-Some.rest.now =
    tail_is c.loop-code.len c.args.bytes.now _ c.in-Some.ensures.cases.0 ∙ ap (λ z. z ∷ c.in-Some.rest.now) c.if-code-ne-DESCRIBED.false in
    λ ds d own behind is k.
    absurd (left_never c.args.bytes.now c.in-Some.rest.now c.loop-code.len c.loop-code.invariant.left at c.in-Err.ensures.none ds d own behind is k)

pub returns-clause-found : goal.returns-clause-found
returns-clause-found c =
    let empty : length (take (length c.args.bytes.now - c.loop-code.len) (drop c.loop-code.len c.args.bytes.now)) ≡ 0 = search rules in
    let nothing = sym (ap length (tail_all c.loop-code.len c.args.bytes.now)) ∙ empty in
    λ ds d own behind is k. absurd (left_some c.args.bytes.now c.loop-code.len c.loop-code.invariant.left nothing ds d own behind is k)
