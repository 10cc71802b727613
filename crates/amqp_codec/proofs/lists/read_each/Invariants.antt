use Rattle.std.proofs.Common.{◌≡◌, length}
use Rattle.amqp_wire.specs.Sources.{Tells}
use Rattle.amqp_decoder.specs.Primitives.{ReadsValue}
use Rattle.amqp_decoder.specs.Steps.{Passed}
use Rattle.amqp_codec.specs.ItemsReading.{ReadsEach}
use Rattle.amqp_codec.proofs.lists.read_each.Given as goal

abbrev pub invariant-loop : goal.invariant-loop
invariant-loop g l = record {
  long : length l.values.items ≡ l.counter;
  each : Tells g.R.ByteSource.remaining
      → ReadsEach (ReadsValue g.T.DeserializeTerm.term.means) l.fn.decoder l.values.items l.decoder;
  passed : Passed l.fn.decoder l.decoder;
}
