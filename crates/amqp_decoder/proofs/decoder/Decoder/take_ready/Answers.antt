use Rattle.std.proofs.Common.{rules, arith, ◌≡◌, ◌≤◌, ◌-◌, Some, None, false, length, sym, ◌∙◌, subst}
use Rattle.amqp_wire.specs.Limits.{unlimited, limit_of}
use Rattle.amqp_decoder.specs.State.{State, Has, left_in}
use Rattle.amqp_decoder.proofs.Limits.{few_bytes, limit_lowered}
use Rattle.amqp_decoder.proofs.Rows.{bounded_as}
use Rattle.amqp_decoder.proofs.Reserve.{spared_left_for, spared_limit_for, spared_pulled}
use Rattle.amqp_decoder.proofs.decoder.Decoder.take_ready.Goals as goal

pub invariant_of-self-in-Some : goal.invariant_of-self-in-Some
invariant_of-self-in-Some g c =
    let d = c.self.inside in
    let limit = limit_of d.bytes in
    let n = length c.args.buffer.now in
    let own : d.top.left ≡ Some c.in-Some.left = c.in-Some.is in
    let room : Has d.top.left n =
    subst (λ o. Has o n) (sym own) (subst (λ o. Has (left_in o limit) n) own (subst (λ (x : State). Has x.top.left n) (sym c.self.view_is) c.requires.room)) in
    let few : n ≤ c.in-Some.left = subst (λ o. Has o n) own room in
    let less : c.saturating_sub.result ≡ c.in-Some.left - n = omega (arith, c.saturating_sub.ensures, c.pull_ready.auto.buffer, c.requires.few) in (
      c.self.invariant.0,
      c.self.invariant.1,
      c.self.invariant.2,
      λ e. (let none = (c.self.invariant.3 e).0 in absurd (cc)),
      bounded_as _ _ _ _ _ _ (λ e. (e, λ none. absurd (cc))) c.self.invariant.4,
      c.self.invariant.5,
      c.self.invariant.6,
      c.self.invariant.7,
      λ told one sound some.
          (let before : d.input.failed ≡ false = sym c.pull_ready.ensures.sound ∙ sound in
          spared_pulled n d.input c.pull_ready.new.self (c.pull_ready.ensures.new told (search rules)) (omega arith)
          (spared_left_for limit d.depth d.frames d.top c.in-Some.left n c.saturating_sub.result own few less (c.self.invariant.8 told one before some))),
    )

pub invariant_of-self-in-None-2 : goal.invariant_of-self-in-None-2
invariant_of-self-in-None-2 g c =
    let d = c.self.inside in
    let limit = limit_of d.bytes in
    let n = length c.args.buffer.now in
    let none : d.top.left ≡ None = c.in-None-2.is in
    let room : Has limit n =
    subst (λ o. Has (left_in o limit) n) none (subst (λ (x : State). Has x.top.left n) (sym c.self.view_is) c.requires.room) in
    let some : d.bytes ≡ unlimited → ⊥ = c.if-self.false in
    let less =
    limit_lowered d.bytes n c.saturating_sub-self-inside.result some (omega arith) (few_bytes d.bytes n some room)
    (omega (arith, c.saturating_sub-self-inside.ensures, c.from.ensures, c.pull_ready.auto.buffer, c.requires.few)) in (
      c.self.invariant.0,
      c.self.invariant.1,
      c.self.invariant.2,
      c.self.invariant.3,
      c.self.invariant.4,
      c.self.invariant.5,
      c.self.invariant.6,
      c.self.invariant.7,
      λ told one sound some.
          (let before : d.input.failed ≡ false = sym c.pull_ready.ensures.sound ∙ sound in
          spared_pulled n d.input c.pull_ready.new.self (c.pull_ready.ensures.new told (search rules)) (omega arith)
          (spared_limit_for limit (limit_of c.saturating_sub-self-inside.result) d.depth d.frames d.top n none room less.0 less.1
          (c.self.invariant.8 told one before some))),
    )
