use Rattle.std.proofs.Common.{◌≡◌, ◌-◌, ◌≤◌, length}
use Rattle.amqp_wire.specs.Sources.{Tells}
use Rattle.amqp_decoder.specs.State.{after_bytes}
use Rattle.amqp_decoder.specs.Steps.{GoesOn}
use Rattle.amqp_decoder.proofs.decoder.Decoder.skip.Given as goal

abbrev pub invariant-loop-left : goal.invariant-loop-left
invariant-loop-left g l =
    (l.left ≤ l.fn.count) × (Tells g.R.ByteSource.remaining → l.fn.count - l.left ≤ length l.fn.self.rest)
    × (Tells g.R.ByteSource.remaining → l.self ≡ after_bytes (l.fn.count - l.left) l.fn.self) × GoesOn l.fn.self l.self

abbrev pub decreases-loop-left : goal.decreases-loop-left
decreases-loop-left g l = l.left
