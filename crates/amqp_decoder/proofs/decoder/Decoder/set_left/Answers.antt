use Rattle.std.proofs.Common.{◌≡◌, Some, sym, ap, ◌∙◌}
use Rattle.amqp_wire.specs.Limits.{limit_of}
use Rattle.amqp_decoder.specs.State.{State, bound_of}
use Rattle.amqp_decoder.proofs.Rows.{bound_is, bounded_as}
use Rattle.amqp_decoder.proofs.Reserve.{spared_left}
use Rattle.amqp_decoder.proofs.decoder.Decoder.set_left.Goals as goal

pub invariant_of-self : goal.invariant_of-self
invariant_of-self g c =
    let d = c.self.inside in
    let own : d.top.left ≡ Some c.requires.0 =
    sym (bound_is d.top.left (limit_of d.bytes)) ∙ ap (λ (x : State). bound_of x.top) c.self.view_is ∙ c.requires.1 in (
      c.self.invariant.0,
      c.self.invariant.1,
      c.self.invariant.2,
      λ e. (let none = (c.self.invariant.3 e).0 in absurd (cc)),
      bounded_as _ _ _ _ _ _ (λ e. (e, λ none. absurd (cc))) c.self.invariant.4,
      c.self.invariant.5,
      c.self.invariant.6,
      c.self.invariant.7,
      λ told one sound some. spared_left (limit_of d.bytes) d.depth d.frames d.top c.requires.0 c.args.left own c.requires.2
          (c.self.invariant.8 told one sound some),
    )
