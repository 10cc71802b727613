use Rattle.std.proofs.Common.{refl}
use Rattle.amqp_wire.specs.Limits.{limit_of}
use Rattle.amqp_decoder.proofs.Rows.{room_less}
use Rattle.amqp_decoder.proofs.Reserve.{spared_kept}
use Rattle.amqp_decoder.proofs.decoder.Decoder.take_item.Goals as goal

pub invariant_of-self : goal.invariant_of-self
invariant_of-self g c = (
  c.self.invariant.0,
  c.self.invariant.1,
  c.self.invariant.2,
  c.self.invariant.3,
  c.self.invariant.4,
  room_less c.self.inside.nesting (limit_of c.self.inside.bytes) c.self.inside.descriptors.items c.self.inside.depth c.self.inside.top _ c.saturating_sub-self-inside.ensures c.self.invariant.5,
  c.self.invariant.6,
  c.self.invariant.7,
  λ told one sound some. spared_kept refl (c.self.invariant.8 told one sound some),
)
