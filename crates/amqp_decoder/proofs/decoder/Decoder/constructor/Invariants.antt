use Rattle.std.proofs.Common.{◌≡◌, ◌-◌, ◌≤◌, None, map, vec_len}
use Rattle.amqp_wire.specs.Sources.{Tells}
use Rattle.amqp_decoder.specs.State.{descriptor_of}
use Rattle.amqp_decoder.specs.Arrays.{TakesMarks}
use Rattle.amqp_decoder.specs.Steps.{GoesOn}
use Rattle.amqp_decoder.proofs.decoder.Decoder.constructor.Given as goal

abbrev pub invariant-loop-code : goal.invariant-loop-code
invariant-loop-code g l = record {
  few : vec_len l.descriptors ≤ 128;
  marks : Tells g.R.ByteSource.remaining → l.fn.self.top.shared ≡ None
      → TakesMarks l.fn.self (map descriptor_of l.descriptors.items) l.code l.self;
  goes : GoesOn l.fn.self l.self;
}

abbrev pub decreases-loop-code : goal.decreases-loop-code
decreases-loop-code g l = 128 - vec_len l.descriptors
