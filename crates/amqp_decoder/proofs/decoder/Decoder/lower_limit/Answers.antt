use Rattle.std.proofs.Common.{◌≡◌, ◌-◌, None, sym, ap, ◌∙◌, subst, arith}
use Rattle.amqp_wire.specs.Limits.{unlimited, limit_of}
use Rattle.amqp_decoder.specs.State.{State, Has, bound_of, left_in}
use Rattle.amqp_decoder.proofs.Limits.{unbounded, few_bytes, limit_lowered}
use Rattle.amqp_decoder.proofs.Reserve.{spared_limit}
use Rattle.amqp_decoder.proofs.decoder.Decoder.lower_limit.Goals as goal

pub invariant_of-self : goal.invariant_of-self
invariant_of-self g c =
    let d = c.self.inside in
    let limit = limit_of d.bytes in
    let none : d.top.left ≡ None =
    unbounded d.top.left limit (ap (λ (x : State). bound_of x.top) c.self.view_is ∙ c.requires.unbounded) in
    let room : Has limit c.args.count =
    subst (λ o. Has (left_in o limit) c.args.count) none
    (subst (λ (x : State). Has x.top.left c.args.count) (sym c.self.view_is) c.requires.room) in
    let some : d.bytes ≡ unlimited → ⊥ = c.if-self.false in
    let less = limit_lowered d.bytes c.args.count (d.bytes - c.from.result) some (omega arith) (few_bytes d.bytes c.args.count some room)
    (ap (λ n. d.bytes - n) c.from.ensures) in (
      c.self.invariant.0,
      c.self.invariant.1,
      c.self.invariant.2,
      c.self.invariant.3,
      c.self.invariant.4,
      c.self.invariant.5,
      c.self.invariant.6,
      c.self.invariant.7,
      λ told one sound some. spared_limit limit (limit_of (d.bytes - c.from.result)) d.depth d.frames d.top c.args.count none less.0 less.1
          (c.self.invariant.8 told one sound some),
    )
