use Rattle.std.proofs.Common.{◌≡◌, ◌+◌, ◌-◌, ◌∷◌, inr, take, drop, length, ap, ◌∙◌, subst, arith}
use Rattle.std.proofs.lemmas.List.{length-drop}
use Rattle.amqp_lengths.specs.Lengths.{Constructs}
use Rattle.amqp_lengths.proofs.Fronts.{tail_is, tail_all}
use Rattle.amqp_lengths.proofs.Descriptors.{ended}
use Rattle.amqp_paths.specs.Steps.{IsElement, Reaches}
use Rattle.amqp_paths.proofs.Furthers.{code_steps, element_steps, element_falls, known_some, code_reaches}
use Rattle.amqp_paths.proofs.elements.part_within.Goals as goal

pub returns-in-Some-clause-step : goal.returns-in-Some-clause-step
returns-in-Some-clause-step c =
    let m = c.marks_within-marks.result in
    let content = c.args.content.now in
    let known = c.in-Some.ensures.1 in
    let (after, there) = c.in-Some.ensures.2 in
    let at : drop m.len content ≡ c.in-Some.code ∷ after = tail_is m.len content _ there in
    let built : Constructs m.descriptors c.in-Some.code (take (m.len + 1) content) =
    ended m.descriptors m.len c.in-Some.code content after c.marks_within-marks.ensures.few c.marks_within-marks.ensures.marks.spelled at
    (known_some c.in-Some.code known) (inr known) in
    let all = tail_all (m.len + 1) content in
    element_steps c.args.count m.descriptors c.in-Some.code (m.len + 1) c.args.room content c.element_within.result c.behind.result
    (omega (arith, ap length at, length-drop m.len content)) built
    (subst (λ l. IsElement m.descriptors c.in-Some.code c.args.count l c.element_within.result.piece c.element_within.result.start) all
    c.element_within.ensures.element)
    (c.element_within.ensures.ends ∙ ap length all) c.element_within.ensures.near
    (omega (arith, c.in-Some.ensures.0, c.marks_within-marks.ensures.near))
    (subst (λ l. Reaches c.element_within.result.piece (drop c.element_within.result.start l) ((c.args.room - (m.len + 1)) - c.element_within.result.start))
    all c.element_within.ensures.reaches) c.behind.ensures.piece c.behind.ensures.start c.behind.ensures.end

pub returns-in-Some-clause-falls : goal.returns-in-Some-clause-falls
returns-in-Some-clause-falls c =
    let m = c.marks_within-marks.result in
    element_falls m.descriptors c.in-Some.code c.args.count m.len c.behind.result.start _ c.element_within.result.piece c.behind.result.piece
    c.element_within.result.start c.marks_within-marks.ensures.few c.element_within.ensures.element c.behind.ensures.piece c.behind.ensures.start

pub returns-in-None-clause-step : goal.returns-in-None-clause-step
returns-in-None-clause-step c =
    let m = c.marks_within-marks.result in
    code_steps c.args.count m.descriptors m.len c.args.room c.args.content.now c.marks_within-marks.ensures.few c.marks_within-marks.ensures.marks
    c.marks_within-marks.ensures.near
    (code_reaches m.descriptors m.len c.args.room c.args.content.now c.marks_within-marks.ensures.all c.in-None.ensures)
