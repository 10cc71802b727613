use Rattle.std.proofs.Common.{◌≡◌, false, sym, ◌∙◌, subst}
use Rattle.amqp_decoder.specs.Reserve.{Shows}
use Rattle.amqp_decoder.proofs.Reserve.{spared_looked}
use Rattle.amqp_decoder.proofs.decoder.Decoder.look_next.Goals as goal

pub invariant_of-self-in-Ok : goal.invariant_of-self-in-Ok
invariant_of-self-in-Ok g c = (
  c.self.invariant.0,
  c.self.invariant.1,
  c.self.invariant.2,
  c.self.invariant.3,
  c.self.invariant.4,
  c.self.invariant.5,
  c.self.invariant.6,
  c.self.invariant.7,
  λ told one sound some.
      (let before : c.self.inside.input.failed ≡ false = sym c.in-Ok.ensures.sound ∙ sound in
      let shown = subst (Shows g.R.ByteSource.reserve 1) (sym c.self.view_is) (c.requires told) one before some in
      spared_looked {n = 1} c.in-Ok.field-0 c.self.inside.input c.peek.new.self (c.in-Ok.ensures.new told) c.in-Ok.ensures.fits shown
      (c.self.invariant.8 told one before some)),
)
