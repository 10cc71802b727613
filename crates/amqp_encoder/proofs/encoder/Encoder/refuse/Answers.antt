use Rattle.amqp_encoder.proofs.Settled.{refuses}
use Rattle.amqp_encoder.proofs.encoder.Encoder.refuse.Goals as goal

pub returns : goal.returns
returns g c =
    refuses _ _ c.args.error c.if-has_refused.ensures.going c.settle.ensures.settled c.settle.ensures.bytes
