use Rattle.std.proofs.Common.{◌≡◌, false, sym, ◌∙◌, subst}
use Rattle.amqp_decoder.specs.Reserve.{Shows}
use Rattle.amqp_decoder.proofs.Reserve.{spared_next}
use Rattle.amqp_decoder.proofs.decoder.Decoder.look_at_hand.Goals as goal

pub invariant_of-self : goal.invariant_of-self
invariant_of-self g c = (
  c.self.invariant.0,
  c.self.invariant.1,
  c.self.invariant.2,
  c.self.invariant.3,
  c.self.invariant.4,
  c.self.invariant.5,
  c.self.invariant.6,
  c.self.invariant.7,
  λ told one sound some.
      (let before : c.self.inside.input.failed ≡ false = sym c.look_at_hand.ensures.sound ∙ sound in
      let shown = subst (Shows g.R.ByteSource.reserve 1) (sym c.self.view_is) (c.requires told) one before some in
      spared_next c.look_at_hand.result c.self.inside.input c.look_at_hand.new.self c.look_at_hand.ensures.next shown
      (c.self.invariant.8 told one before some)),
)
