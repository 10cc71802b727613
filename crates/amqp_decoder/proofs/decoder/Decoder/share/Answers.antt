use Rattle.std.proofs.Common.{rules, arith, ◌≡◌, ◌≤◌, ◌+◌, Some, length, refl, ap, sym, subst, ◌∙◌, inl, inr}
use Rattle.amqp_wire.specs.Limits.{limit_of}
use Rattle.amqp_decoder.specs.declared.frame.Place.TheVariants.{InArray}
use Rattle.amqp_decoder.specs.State.{State, shared_in, left_in, is_sized, limit_around}
use Rattle.amqp_decoder.specs.Rooms.{HasFlatItems}
use Rattle.amqp_decoder.proofs.Rows.{few_shared, shared_among, shared_front, nested_last, put_behind, same_view, bounded_as, length-stack}
use Rattle.amqp_decoder.proofs.Reserve.{spared_kept}
use Rattle.amqp_decoder.proofs.decoder.Decoder.share.Goals as goal

pub overflow_add-last : goal.overflow_add-last
overflow_add-last g c =
    let few : c.self.inside.depth ≤ length c.self.inside.frames = omega (arith, c.self.invariant.7) in
    let first : c.descriptors_in-first.result ≡ shared_in c.self.inside.depth c.self.inside.frames =
    c.descriptors_in-first.ensures in
    let least = few_shared c.self.inside.depth c.self.inside.frames c.self.inside.top.last c.self.invariant.1 in
    omega (arith, c.requires)

pub invariant_of-self : goal.invariant_of-self
invariant_of-self g c =
    let n = c.descriptors_in-first.result in
    let rows : c.self.inside.depth ≤ length c.self.inside.frames = omega (arith, c.self.invariant.7) in
    let first : n ≡ shared_in c.self.inside.depth c.self.inside.frames =
    c.descriptors_in-first.ensures in
    let among = shared_among c.self.inside.depth c.self.inside.frames c.self.inside.top.last c.self.invariant.1 in (
      c.self.invariant.0,
      nested_last _ _ _ n c.self.invariant.1 (omega arith) (omega arith),
      search rules,
      λ e. absurd (cc),
      bounded_as _ _ _ _ _ _ (λ e. absurd (cc)) c.self.invariant.4,
      inr (inl refl),
      c.self.invariant.6,
      c.self.invariant.7,
      λ told one sound some. spared_kept refl (c.self.invariant.8 told one sound some),
    )

pub invariant_of-self-2 : goal.invariant_of-self-2
invariant_of-self-2 g c =
    let d = c.self.inside.depth in
    let fs = c.self.inside.frames in
    let n = c.descriptors_in-first.result in
    let put = put_behind c.self.inside.descriptors.items c.args.descriptors.items c.append.new.self.items
    (limit_around c.self.inside.top.left (limit_of c.self.inside.bytes)) d fs c.self.inside.top.last n
    c.args.code (n + c.len.result)
    c.self.invariant.1 (omega (arith, c.self.invariant.2)) (omega (arith, c.self.invariant.7))
    (c.descriptors_in-first.ensures ∙ sym (shared_front d fs (omega (arith, c.self.invariant.7)))) (search rules)
    c.requires.coded (omega arith) in
    let deep : length c.args.self.now.saved ≡ d = ap (λ (st : State). length st.saved) (sym c.self.view_is) ∙ length-stack _ _ _ _ in
    let limit : c.args.self.now.nesting ≡ c.self.inside.nesting = ap (λ (st : State). st.nesting) (sym c.self.view_is) in (
      c.self.invariant.0,
      nested_last _ _ _ _ c.self.invariant.1 (omega (arith, put.0)) (omega (arith, put.0, c.requires.few)),
      search rules,
      λ e. absurd (cc),
      bounded_as _ _ _ _ _ _ (λ e. absurd (cc)) c.self.invariant.4,
      elim c.requires.room [
        | inl flat ↦ inr (inr (subst HasFlatItems (sym put.1) flat))
        | inr fits ↦ inl (omega (arith, deep, limit, fits))
      ],
      c.self.invariant.6,
      c.self.invariant.7,
      λ told one sound some. spared_kept refl (c.self.invariant.8 told one sound some),
    )

pub returns-clause-ok : goal.returns-clause-ok
returns-clause-ok g c =
    let d = c.self.inside.depth in
    let fs = c.self.inside.frames in
    let n = c.descriptors_in-first.result in
    let put = put_behind c.self.inside.descriptors.items c.args.descriptors.items c.append.new.self.items
    (limit_around c.self.inside.top.left (limit_of c.self.inside.bytes)) d fs c.self.inside.top.last n
    c.args.code (n + c.len.result)
    c.self.invariant.1 (omega (arith, c.self.invariant.2)) (omega (arith, c.self.invariant.7))
    (c.descriptors_in-first.ensures ∙ sym (shared_front d fs (omega (arith, c.self.invariant.7)))) (search rules)
    c.requires.coded (omega arith) in
    rw (← c.self.view_is) (same_view _ _ _ _ _ _ _ _ _ _ _
    (ap (λ x. record { place = InArray; items = Some c.args.count; left = left_in c.self.inside.top.left (limit_of c.self.inside.bytes); sized = is_sized c.self.inside.top.left; shared = x }) put.1) put.2)
