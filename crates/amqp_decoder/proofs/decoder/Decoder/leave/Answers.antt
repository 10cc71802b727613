use Rattle.std.proofs.Common.{arith, ◌≡◌, ◌-◌, suc, Some, sym, ap, ◌∙◌, inl}
use Rattle.amqp_wire.specs.Limits.{limit_of}
use Rattle.amqp_decoder.specs.State.{State, stack, bound_of, limit_around}
use Rattle.amqp_decoder.proofs.Rows.{stack_top, bound_is, same_view, outer_frame}
use Rattle.amqp_decoder.proofs.Reserve.{spared_outside}
use Rattle.amqp_decoder.proofs.decoder.Decoder.leave.Goals as goal

pub invariant_of-self : goal.invariant_of-self
invariant_of-self g c =
    let d = c.self.inside in
    let limit = limit_of d.bytes in
    let one : d.depth ≡ suc (d.depth - 1) = omega arith in
    let outer = outer_frame _ _ _ _ _ _ one c.self.invariant.1 c.self.invariant.4 in
    let ended : d.top.left ≡ Some 0 =
    sym (bound_is d.top.left limit) ∙ ap (λ (x : State). bound_of x.top) c.self.view_is ∙ c.requires in
    rw (c.get-self-inside.ensures) (
      omega arith,
      outer.0.2,
      omega (arith, outer.0.0, c.self.invariant.2),
      outer.1.1,
      outer.1.2,
      inl (omega arith),
      c.self.invariant.6,
      c.self.invariant.7,
      λ told one_ sound some. spared_outside limit d.depth (d.depth - 1) d.frames d.top 0 ended one (c.self.invariant.8 told one_ sound some),
    )

pub returns-clause-left : goal.returns-clause-left
returns-clause-left g c = λ outer others saved.
    let ds = c.self.inside.descriptors.items in
    let limit = limit_of c.self.inside.bytes in
    let d = c.self.inside.depth in
    let one : d ≡ suc (d - 1) = omega arith in
    let ended : c.self.inside.top.left ≡ Some 0 =
    sym (bound_is c.self.inside.top.left limit) ∙ ap (λ (x : State). bound_of x.top) c.self.view_is ∙ c.requires in
    let is = ap (λ o. stack ds (limit_around o limit) d c.self.inside.frames) (sym ended) ∙ ap (λ (x : State). x.saved) c.self.view_is ∙ saved in
    let (top, around) = stack_top ds limit d (d - 1) c.self.inside.frames outer others one is in
    rw (← c.self.view_is, c.get-self-inside.ensures) (same_view _ _ _ _ _ _ _ _ _ _ _ top around)
