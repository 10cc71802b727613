use Rattle.std.proofs.Common.{arith, ◌≡◌, ◌≤◌, ◌<◌, length, refl, None, Some, ap, sym, ◌∙◌, inl}
use Rattle.std.specs.Option.{option_and}
use Rattle.std.proofs.lemmas.List.{length-set}
use Rattle.amqp_wire.specs.Limits.{limit_of}
use Rattle.amqp_decoder.proofs.Rows.{length-stack, described_push, nested_push, bounded_push, bounded_as, shared_behind, none_and}
use Rattle.amqp_decoder.proofs.Reserve.{spared_described}
use Rattle.amqp_decoder.proofs.decoder.Decoder.enter_described.Goals as goal

pub invariant_of-self : goal.invariant_of-self
invariant_of-self g c =
    let few : c.self.inside.depth < length c.self.inside.frames = omega (arith, c.self.invariant.7) in
    let outer = record c.self.inside.top { left = c.and.result } in
    let kept : c.self.inside.top.left ≡ None → c.and.result ≡ None = λ e. c.and.ensures ∙ ap (λ o. option_and o (Some 0)) e in
    rw (c.set.ensures) (
      omega arith,
      nested_push _ _ _ few c.self.invariant.1,
      c.self.invariant.2,
      λ e. absurd (cc),
      bounded_push _ _ outer _ _ few (λ e n. none_and _ (sym c.and.ensures ∙ n))
          (λ e. (kept (c.self.invariant.3 e).0, (c.self.invariant.3 e).1)) (bounded_as _ _ _ _ _ _ (λ e. (e, kept)) c.self.invariant.4),
      inl (omega arith),
      c.self.invariant.6,
      length-set _ _ _ ∙ c.self.invariant.7,
      λ told one sound some. spared_described (limit_of c.self.inside.bytes) c.self.inside.depth c.self.inside.frames c.self.inside.top
          c.and.result _ refl few c.and.ensures (c.self.invariant.8 told one sound some),
    )

pub returns-clause-err : goal.returns-clause-err
returns-clause-err g c =
    let deep : c.args.self.now.nesting ≤ length c.args.self.now.saved = rw (← c.self.view_is, length-stack) (omega arith) in
    (c.refuse_depth.ensures.answer, deep, c.refuse_depth.ensures.kept)

pub returns-then-self-clause-ok : goal.returns-then-self-clause-ok
returns-then-self-clause-ok g c =
    let few : c.self.inside.depth < length c.self.inside.frames = omega (arith, c.self.invariant.7) in
    let pushed =
    described_push c.self.inside.descriptors.items (limit_of c.self.inside.bytes) c.self.inside.depth c.self.inside.frames c.self.inside.top
    c.and.result few c.and.ensures in
    let rest = shared_behind c.self.inside.descriptors.items c.self.inside.top.code c.self.inside.top.first c.saturating_add.result
    c.self.inside.top.last (omega (arith, c.saturating_add.ensures)) (λ h. omega (arith, c.saturating_add.ensures)) in
    rw (← c.self.view_is, length-stack, c.set.ensures, pushed, rest) (omega arith, refl)

pub returns-clause-nesting : goal.returns-clause-nesting
returns-clause-nesting g c = rw (← c.self.view_is) c.self.invariant.6

pub returns-then-self-clause-nesting : goal.returns-then-self-clause-nesting
returns-then-self-clause-nesting g c = rw (← c.self.view_is) c.self.invariant.6
