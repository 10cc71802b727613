use Rattle.std.proofs.Common.{◌≡◌, refl, sym, ◌∙◌, ap, ℕ, [], List, length, ◌≤◌}
use Rattle.std.specs.Prelude.{Result, Ok, Err, IfOk, MatchResult}
use Rattle.amqp_wire.specs.declared.error.Error.{Error}
use Rattle.amqp_wire.specs.declared.error.Error.TheVariants.{InvalidValue}
use Rattle.amqp_encoder.specs.declared.size.Size.{Size}
use Rattle.amqp_encoder.specs.State.{Measured, Pass, Measuring}
use Rattle.amqp_encoder.specs.Writes.{Found, pass_of}
use Rattle.amqp_encoder.proofs.Settled.{going_pass}
use Rattle.amqp_encoder.proofs.encoder.measured_len.Goals as goal

found : (s : Pass) (m : Measured) (r : Result ℕ Error) → s ≡ Measuring m
    → MatchResult r (λ len. (m.outer ≡ []) × (len ≡ m.frame.content)) (λ e. (e ≡ InvalidValue) × (1 ≤ length m.outer))
    → IfOk r (λ len. (sizes : List Size) × Found s len sizes)
found s m (Ok len) i h = (m.sizes, rw i (h.0, sym h.1, refl))
found s m (Err e) i h = tt

pub returns-in-Ok-clause-found : goal.returns-in-Ok-clause-found
returns-in-Ok-clause-found c =
    let e = c.encoder.inside in
    let now = ap pass_of (sym c.encoder.view_is) in
    found _ e.pass _ (now ∙ going_pass e.standing e.error (Measuring e.pass) (rw (← now) (sym c.in-Ok.ensures))) c.measured.ensures
