use Rattle.std.proofs.Common.{rules, add-one, ◌≡◌, ◌-◌, [], ◌∷◌, length, take, drop, sym, ap, ◌∙◌, subst, arith}
use Rattle.std.proofs.lemmas.List.{length-drop}
use Rattle.amqp_lengths.proofs.Fronts.{tail_is, tail_all}
use Rattle.amqp_lengths.proofs.Descriptors.{one_more, ended}
use Rattle.amqp_lengths.specs.Lengths.{HasMarks}
use Rattle.amqp_lengths.specs.Faults.{ConstructorFault, constructor_ends, constructor_unknown, constructor_long, constructor_descriptor}
use Rattle.amqp_lengths.proofs.Rows.{no_bytes}
use Rattle.amqp_lengths.proofs.Faults.{behind_at, placed}
use Rattle.amqp_lengths.proofs.constructors.read_constructor.Goals as goal

pub returns-in-None-clause-found : goal.returns-in-None-clause-found
returns-in-None-clause-found c =
    let at : drop c.loop-code.len c.args.input.now ≡ c.in-Some.code.now ∷ c.in-Some.rest.now =
    tail_is c.loop-code.len c.args.input.now _ c.in-Some.ensures.cases.0 in
    let long = ap length at in
    record {
      within = omega (arith, long, length-drop c.loop-code.len c.args.input.now);
      spelled = ended c.loop-code.descriptors c.loop-code.len c.in-Some.code.now c.args.input.now c.in-Some.rest.now
          c.loop-code.invariant.few c.loop-code.invariant.marks at c.if-code-ne-DESCRIBED.true c.in-None.ensures;
    }

pub loop-code-preserved : goal.loop-code-preserved
loop-code-preserved c =
    let at : drop c.loop-code.len c.args.input.now ≡ 0 ∷ c.in-Some.rest.now =
    tail_is c.loop-code.len c.args.input.now _ c.in-Some.ensures.cases.0
    ∙ ap (λ z. z ∷ c.in-Some.rest.now) c.if-code-ne-DESCRIBED.false in
    let long = ap length at in
    let found = c.in-Ok.ensures.found.within in
    record {
      within = omega (arith, long, found, length-drop c.loop-code.len c.args.input.now);
      few = omega arith;
      marks = one_more c.loop-code.descriptors c.loop-code.len c.in-Ok.descriptor_len c.args.input.now c.in-Some.rest.now
          c.loop-code.invariant.marks at c.in-Ok.ensures.found;
      same = c.loop-code.invariant.same;
    }

pub returns-in-Some-unknown-clause-fault : goal.returns-in-Some-unknown-clause-fault
returns-in-Some-unknown-clause-fault c =
    let at : drop c.loop-code.len c.args.input.now ≡ c.in-Some.code.now ∷ c.in-Some.rest.now =
    tail_is c.loop-code.len c.args.input.now _ c.in-Some.ensures.cases.0 in
    placed (ConstructorFault c.args.input.now) (c.refuse.ensures.error ∙ c.in-Some-unknown.ensures.0) (c.refuse.ensures.left ∙ add-one _)
    (constructor_unknown c.loop-code.descriptors _ _ c.loop-code.invariant.few
    (behind_at (HasMarks c.loop-code.descriptors) c.args.input.now c.loop-code.len _ c.loop-code.invariant.marks at)
    c.if-code-ne-DESCRIBED.true c.in-Some-unknown.ensures.1)

pub returns-then-descriptors-eq-NESTING-clause-fault : goal.returns-then-descriptors-eq-NESTING-clause-fault
returns-then-descriptors-eq-NESTING-clause-fault c =
    let at : drop c.loop-code.len c.args.input.now ≡ 0 ∷ c.in-Some.rest.now =
    tail_is c.loop-code.len c.args.input.now _ c.in-Some.ensures.cases.0
    ∙ ap (λ z. z ∷ c.in-Some.rest.now) c.if-code-ne-DESCRIBED.false in
    placed (ConstructorFault c.args.input.now) c.refuse-then-descriptors-eq-NESTING.ensures.error
    (c.refuse-then-descriptors-eq-NESTING.ensures.left ∙ add-one _)
    (constructor_long _ (behind_at (HasMarks 128) c.args.input.now c.loop-code.len _
    (subst (λ n. HasMarks n (take c.loop-code.len c.args.input.now)) c.if-descriptors-eq-NESTING.true c.loop-code.invariant.marks) at))

pub returns-in-Err-clause-fault : goal.returns-in-Err-clause-fault
returns-in-Err-clause-fault c =
    let at : drop c.loop-code.len c.args.input.now ≡ 0 ∷ c.in-Some.rest.now =
    tail_is c.loop-code.len c.args.input.now _ c.in-Some.ensures.cases.0
    ∙ ap (λ z. z ∷ c.in-Some.rest.now) c.if-code-ne-DESCRIBED.false in
    placed (ConstructorFault c.args.input.now) c.refuse-in-Err.ensures.error c.refuse-in-Err.ensures.left
    (constructor_descriptor c.loop-code.descriptors _ _ (omega (arith, c.loop-code.invariant.few))
    (behind_at (HasMarks c.loop-code.descriptors) c.args.input.now c.loop-code.len _ c.loop-code.invariant.marks at)
    c.in-Err.ensures.fault)

pub returns-clause-fault : goal.returns-clause-fault
returns-clause-fault c =
    let empty : length (take (length c.args.input.now - c.loop-code.len) (drop c.loop-code.len c.args.input.now)) ≡ 0 = search rules in
    let none : drop c.loop-code.len c.args.input.now ≡ [] =
    no_bytes _ (sym (ap length (tail_all c.loop-code.len c.args.input.now)) ∙ empty) in
    placed (ConstructorFault c.args.input.now) c.refuse-2.ensures.error c.refuse-2.ensures.left
    (constructor_ends c.loop-code.descriptors c.loop-code.invariant.few
    (behind_at (HasMarks c.loop-code.descriptors) c.args.input.now c.loop-code.len [] c.loop-code.invariant.marks none))
