use Rattle.std.proofs.Common.{◌≡◌, [], false, sym, ◌∙◌, subst}
use Rattle.amqp_wire.specs.Limits.{limit_of}
use Rattle.amqp_decoder.specs.State.{limit_around}
use Rattle.amqp_decoder.specs.Reserve.{Spares}
use Rattle.amqp_decoder.proofs.Reserve.{spared_others, spared_pulled}
use Rattle.amqp_decoder.proofs.decoder.Decoder.pull_all.Goals as goal

pub invariant_of-self : goal.invariant_of-self
invariant_of-self g c = (
  c.self.invariant.0,
  c.self.invariant.1,
  c.self.invariant.2,
  c.self.invariant.3,
  c.self.invariant.4,
  c.self.invariant.5,
  c.self.invariant.6,
  c.self.invariant.7,
  λ told one sound some.
      (let d = c.self.inside in
      let before : c.self.inside.input.failed ≡ false = sym c.in-Ok.ensures.sound ∙ sound in
      let held = subst (Spares g.R.ByteSource.reserve _) (sym c.self.view_is) (c.requires told) one before some in
      spared_pulled c.in-Ok.count c.self.inside.input c.pull.new.self (c.in-Ok.ensures.new told) c.in-Ok.ensures.fits
      (spared_others d.descriptors.items [] (limit_of d.bytes) (limit_around d.top.left (limit_of d.bytes)) d.depth d.frames d.top held)),
)
