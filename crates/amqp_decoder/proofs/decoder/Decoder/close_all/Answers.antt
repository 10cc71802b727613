use Rattle.std.proofs.Common.{[], sym, subst}
use Rattle.amqp_wire.specs.Limits.{limit_of}
use Rattle.amqp_decoder.specs.State.{State, announced, limit_around}
use Rattle.amqp_decoder.specs.Reserve.{Spares}
use Rattle.amqp_decoder.proofs.Reserve.{closed, spared_others, spares_announced}
use Rattle.amqp_decoder.proofs.decoder.Decoder.close_all.Goals as goal

pub returns-clause-spares : goal.returns-clause-spares
returns-clause-spares g c = λ told one sound some.
    let reserve = g.R.ByteSource.reserve in
    let now = c.args.self.now in
    let d = c.self.inside in
    let held : Spares reserve 0 now =
    subst (Spares reserve 0) c.self.view_is (λ one sound some. spared_others [] d.descriptors.items (limit_of d.bytes) (limit_around d.top.left (limit_of d.bytes)) d.depth d.frames d.top (c.self.invariant.8 told one sound some)) in
    subst (λ (st : State). Spares reserve (announced now) (closed st)) (sym c.self.view_is) (spares_announced reserve now held) one sound some
