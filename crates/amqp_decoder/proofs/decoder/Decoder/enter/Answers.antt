use Rattle.std.proofs.Common.{arith, ◌<◌, ◌≡◌, Some, length, refl, subst, ap, sym, ◌∙◌}
use Rattle.std.proofs.lemmas.List.{length-set}
use Rattle.amqp_wire.specs.Limits.{limit_of}
use Rattle.amqp_decoder.specs.State.{State, IsContainer, holding}
use Rattle.amqp_decoder.proofs.Rows.{length-stack, stack-push, nested_push, bounded_push, room_inside}
use Rattle.amqp_decoder.specs.Reserve.{Spares}
use Rattle.amqp_decoder.proofs.Reserve.{spared_inside}
use Rattle.amqp_decoder.proofs.decoder.Decoder.enter.Goals as goal

pub invariant_of-self : goal.invariant_of-self
invariant_of-self g c =
    let few : c.self.inside.depth < length c.self.inside.frames = omega (arith, c.self.invariant.7) in
    let inner : IsContainer c.args.place = c.requires.container in
    let deep : length c.args.self.now.saved ≡ c.self.inside.depth =
    ap (λ (st : State). length st.saved) (sym c.self.view_is) ∙ length-stack _ _ _ _ in
    let limit : c.args.self.now.nesting ≡ c.self.inside.nesting = ap (λ (st : State). st.nesting) (sym c.self.view_is) in
    rw (c.set.ensures) (
      omega arith,
      nested_push _ _ _ few c.self.invariant.1,
      c.self.invariant.2,
      λ e. absurd (subst IsContainer e inner),
      bounded_push _ _ _ _ _ few (λ e. absurd (subst IsContainer e inner)) c.self.invariant.3 c.self.invariant.4,
      room_inside (holding c.args.place c.args.items c.args.content) _ _ _ _ c.args.place c.args.items refl deep limit inner c.requires.room,
      c.self.invariant.6,
      length-set _ _ _ ∙ c.self.invariant.7,
      λ told one sound some. spared_inside c.self.inside.descriptors.items (limit_of c.self.inside.bytes) c.self.inside.depth c.self.inside.frames
          c.self.inside.top (record { items = c.args.items; left = Some c.args.content; place = c.args.place; code = 0; first = c.self.inside.top.last; last = c.self.inside.top.last })
          refl few
          (subst (Spares g.R.ByteSource.reserve c.args.content) (sym c.self.view_is) (c.requires.spares told) one sound some),
    )

pub returns-then-self-clause-err : goal.returns-then-self-clause-err
returns-then-self-clause-err g c =
    let deep : c.args.self.now.nesting < length c.args.self.now.saved = rw (← c.self.view_is, length-stack) (omega arith) in
    (c.refuse_depth.ensures.answer, deep, c.refuse_depth.ensures.kept)

pub returns-clause-ok : goal.returns-clause-ok
returns-clause-ok g c =
    let few : c.self.inside.depth < length c.self.inside.frames = omega (arith, c.self.invariant.7) in
    let pushed = stack-push c.self.inside.descriptors.items (limit_of c.self.inside.bytes) c.self.inside.depth c.self.inside.frames c.self.inside.top few in
    rw (← c.self.view_is, length-stack, c.set.ensures, pushed) (omega arith, refl)
