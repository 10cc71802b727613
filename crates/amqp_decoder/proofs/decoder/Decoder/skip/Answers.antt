use Rattle.std.proofs.Common.{◌-◌, length, take, arith}
use Rattle.std.proofs.lemmas.List.{length-take}
use Rattle.amqp_decoder.proofs.Reserve.{spares_part}
use Rattle.amqp_decoder.proofs.decoder.Decoder.skip.Goals as goal

pub pull_all-requires : goal.pull_all-requires
pull_all-requires g c = λ told.
    spares_part g.R.ByteSource.reserve c.args.count (c.args.count - c.loop-left.left) (length (take c.min-n.result c.loop-left.buffer))
    c.args.self.now c.loop-left.self (c.loop-left.invariant.2 told)
    (omega (arith, c.min-n.ensures, length-take c.min-n.result c.loop-left.buffer, c.loop-left.invariant.0)) (c.requires told)
