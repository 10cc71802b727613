use Rattle.std.proofs.Common.{arith, ◌≡◌, ◌≤◌, ◌-◌, ◌∙◌, length, ap}
use Rattle.std.proofs.lemmas.List.{length-take-le}
use Rattle.amqp_wire.specs.Sources.{known}
use Rattle.amqp_lookahead.proofs.Looks.{sure_all, behind_looked}
use Rattle.amqp_lookahead.proofs.input.Input.into_source.Goals as goal

pub returns-in-Some-clause-rest : goal.returns-in-Some-clause-rest
returns-in-Some-clause-rest g c =
    let v = c.self.invariant in
    let is = c.in-Some.ensures in
    let K = known (g.R.ByteSource.remaining c.self.inside.source) in
    let long : length K ≡ length c.in-Some.bytes.now = ap (λ o. length (known o)) is.1 in
    let few : c.saturating_sub-seen.result ≤ 64 = omega (arith, v.3 is.0, long, c.saturating_sub-seen.ensures) in
    let size : length c.pull_full.new.buffer ≡ c.saturating_sub-seen.result = c.pull_full.auto.buffer ∙ length-take-le _ _ few in
    let room : length c.pull_full.new.buffer ≡ length K - c.self.inside.unseen =
    omega (arith, size, long, c.saturating_sub-seen.ensures) in
    rw (← c.self.view_is) (
    sure_all c.pull_full.result _ _ _ (c.pull_full.ensures.sure is.0)
    (λ n few bytes all. behind_looked _ _ _ c.self.inside.unseen n c.self.inside.looked K _ c.pull_full.new.buffer is.0 (v.2 is.0) room
    (omega (arith, few, c.pull_full.auto.buffer)) bytes
    (λ h. all (omega (arith, h, c.pull_full.auto.buffer))))
    c.pull_full.ensures.fits (c.pull_full.ensures.bytes (_, is.1)) (c.pull_full.ensures.all (_, is.1)))
