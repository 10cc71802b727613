use Rattle.std.proofs.Common.{refl, arith, ◌≡◌, ◌-◌, suc, sym, ap, ◌∙◌, inl}
use Rattle.amqp_wire.specs.Limits.{limit_of}
use Rattle.amqp_decoder.specs.declared.frame.Place.TheVariants.{InDescribed}
use Rattle.amqp_decoder.specs.State.{Open, State, stack, left_in, is_sized, limit_around}
use Rattle.amqp_decoder.proofs.Rows.{outer_frame, bounded_as, stack_top, around_left, same_view}
use Rattle.amqp_decoder.proofs.Reserve.{spared_outside_described}
use Rattle.amqp_decoder.proofs.decoder.Decoder.leave_described.Goals as goal

pub invariant_of-self : goal.invariant_of-self
invariant_of-self g c =
    let described : c.self.inside.top.place ≡ InDescribed = ap (λ (st : State). st.top.place) c.self.view_is ∙ c.requires in
    let one_ : c.self.inside.depth ≡ suc (c.self.inside.depth - 1) = omega arith in
    let outer = outer_frame _ _ _ _ _ _ one_ c.self.invariant.1 c.self.invariant.4 in
    rw (c.get.ensures) (
      omega arith,
      outer.0.2,
      omega (arith, outer.0.0, c.self.invariant.2),
      λ top. (outer.1.0 described (outer.1.1 top).0, (outer.1.1 top).1),
      bounded_as _ _ _ _ _ _ (λ e. (e, outer.1.0 described)) outer.1.2,
      inl (omega arith),
      c.self.invariant.6,
      c.self.invariant.7,
      λ told one sound some. spared_outside_described (limit_of c.self.inside.bytes) c.self.inside.depth (c.self.inside.depth - 1)
          c.self.inside.frames c.self.inside.top refl one_ (outer.1.0 described) (c.self.invariant.8 told one sound some),
    )

pub returns-clause-left : goal.returns-clause-left
returns-clause-left g c = λ outer others saved.
    let described : c.self.inside.top.place ≡ InDescribed = ap (λ (st : State). st.top.place) c.self.view_is ∙ c.requires in
    let ds = c.self.inside.descriptors.items in
    let limit = limit_of c.self.inside.bytes in
    let d = c.self.inside.depth in
    let own = c.self.inside.top.left in
    let one : d ≡ suc (d - 1) = omega arith in
    let frame = outer_frame _ _ _ _ _ _ one c.self.invariant.1 c.self.invariant.4 in
    let is = ap (λ (x : State). x.saved) c.self.view_is ∙ saved in
    let (top, around) = stack_top ds (limit_around own limit) d (d - 1) c.self.inside.frames outer others one is in
    let same = around_left _ own limit (frame.1.0 described) in
    rw (← c.self.view_is, c.get.ensures) (same_view _ _ _ _ _ _ _ _ _ _ _
    (ap (λ (o : Open). record o { left = left_in own limit; sized = is_sized own }) top)
    (ap (λ z. stack ds z (d - 1) c.self.inside.frames) (sym same) ∙ around))
