use Rattle.std.proofs.Common.{[], subst}
use Rattle.amqp_wire.specs.Limits.{limit_of}
use Rattle.amqp_decoder.specs.State.{limit_around}
use Rattle.amqp_decoder.specs.Reserve.{Spares}
use Rattle.amqp_decoder.proofs.Reserve.{spared_others}
use Rattle.amqp_decoder.proofs.decoder.Decoder.spares.Goals as goal

pub returns : goal.returns
returns g c = λ told.
    let d = c.self.inside in
    subst (Spares g.R.ByteSource.reserve 0) c.self.view_is
    (λ one sound some. spared_others [] d.descriptors.items (limit_of d.bytes) (limit_around d.top.left (limit_of d.bytes)) d.depth d.frames d.top (c.self.invariant.8 told one sound some))
