use Rattle.std.proofs.Common.{◌-◌, ◌≤◌}
use Rattle.amqp_wire.specs.Sources.{Tells}
use Rattle.amqp_decoder.specs.Terms.{Keeps}
use Rattle.amqp_decoder.proofs.KeptConstructors.{IsMarked}
use Rattle.amqp_decoder.specs.Steps.{GoesOn}
use Rattle.amqp_decoder.proofs.decoder.Decoder.keep_constructor.Given as goal

abbrev pub invariant-loop-code : goal.invariant-loop-code
invariant-loop-code g l = record {
  few : l.count ≤ 128;
  kept : Tells g.R.ByteSource.remaining → Keeps (IsMarked l.count l.code) l.fn.bytes.items l.fn.self l.bytes.items l.self;
  goes : GoesOn l.fn.self l.self;
}

abbrev pub decreases-loop-code : goal.decreases-loop-code
decreases-loop-code g l = 128 - l.count
