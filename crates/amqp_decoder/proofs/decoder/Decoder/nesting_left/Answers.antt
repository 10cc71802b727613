use Rattle.std.proofs.Common.{arith}
use Rattle.amqp_decoder.proofs.Rows.{length-stack}
use Rattle.amqp_decoder.proofs.decoder.Decoder.nesting_left.Goals as goal

pub returns : goal.returns
returns g c = rw (← c.self.view_is, length-stack) (omega (arith, c.saturating_sub.ensures))
