use Rattle.std.proofs.Common.{◌≡◌, sym, ◌∙◌, subst, arith}
use Rattle.amqp_lengths.specs.Stands.{a_descriptor, IsUnder, IsOwn}
use Rattle.amqp_paths.specs.Steps.{StepsTo, StepsBeyond}
use Rattle.amqp_paths.proofs.Furthers.{HasHead, head_beyond, steps_after, none_answered}
use Rattle.amqp_paths.proofs.steps.in_descriptor.Goals as goal

pub returns-in_err-room-clause-step : goal.returns-in_err-room-clause-step
returns-in_err-room-clause-step c =
    none_answered c.from_residual-in_err-room.result (StepsBeyond (λ P z. (P ≡ a_descriptor) × (z ≡ c.args.input.now)) c.args.room)
    (λ f. StepsTo (λ P z. (P ≡ a_descriptor) × (z ≡ c.args.input.now)) c.args.input.now c.args.room f) c.from_residual-in_err-room.ensures
    (λ P Q d k behind z y around (p, is) s.
    head_beyond c.in_ok-code.code.now c.args.room c.in_ok-code.after.now (λ kind w n more items ar fmt holds. omega (arith, c.in_err-room.ensures))
    P Q d k behind z y around (subst HasHead (sym p) tt) (λ own none. omega (arith, c.in_err-room.ensures)) (is ∙ c.in_ok-code.ensures.cases.0) s)

pub returns-in_err-in_data-clause-step : goal.returns-in_err-in_data-clause-step
returns-in_err-in_data-clause-step c =
    none_answered c.from_residual-in_err-in_data.result (StepsBeyond (λ P z. (P ≡ a_descriptor) × (z ≡ c.args.input.now)) c.args.room)
    (λ f. StepsTo (λ P z. (P ≡ a_descriptor) × (z ≡ c.args.input.now)) c.args.input.now c.args.room f) c.from_residual-in_err-in_data.ensures
    (λ P Q d k behind z y around (p, is) s.
    head_beyond c.in_ok-code.code.now c.args.room c.in_ok-code.after.now
    (λ kind w n more items ar fmt holds.
    let near = c.in_err-in_data.ensures.step kind w n more items ar fmt holds in omega (arith, near, c.in_ok-room.ensures))
    P Q d k behind z y around (subst HasHead (sym p) tt) (λ own none. absurd (subst IsOwn p own)) (is ∙ c.in_ok-code.ensures.cases.0) s)

pub returns-clause-step : goal.returns-clause-step
returns-clause-step c =
    let code = c.in_ok-code.code.now in
    let after = c.in_ok-code.after.now in
    steps_after (λ P z. IsUnder P z code after) (λ P z. (P ≡ a_descriptor) × (z ≡ c.args.input.now)) code c.args.input.now after c.args.room
    c.in_ok-room.room c.in_ok-in_data.field-0 c.behind.result c.in_ok-code.ensures.cases.0 (omega (arith, c.in_ok-room.ensures))
    (λ P z (p, is). subst (λ X. IsUnder X z code after) (sym p) (is ∙ c.in_ok-code.ensures.cases.0)) c.in_ok-in_data.ensures.step
    c.behind.ensures.piece c.behind.ensures.start c.behind.ensures.end
