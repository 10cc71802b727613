use Rattle.std.proofs.Common.{◌≡◌, ◌+◌, ◌*◌, length}
use Rattle.amqp_wire.specs.Sources.{Tells}
use Rattle.amqp_decoder.specs.Primitives.{ReadsValue}
use Rattle.amqp_decoder.specs.Steps.{Passed}
use Rattle.amqp_codec.specs.ItemsReading.{ReadsEach}
use Rattle.amqp_codec.specs.MapReading.{Pairs}
use Rattle.amqp_values.specs.ValueMembers.{ValueMeans}
use Rattle.amqp_values.specs.Levels.{value_in, IsBounded}
use Rattle.amqp_values.proofs.read.+reading.Given as goal

abbrev pub decreases-read_any : goal.decreases-read_any
decreases-read_any g l = 3 * l.levels + 1

abbrev pub decreases-read_described : goal.decreases-read_described
decreases-read_described g l = 3 * l.levels

abbrev pub decreases-read_list : goal.decreases-read_list
decreases-read_list g l = 3 * l.levels

abbrev pub decreases-read_array : goal.decreases-read_array
decreases-read_array g l = 3 * l.levels

abbrev pub decreases-read_map : goal.decreases-read_map
decreases-read_map g l = 3 * l.levels

abbrev pub decreases-read_row : goal.decreases-read_row
decreases-read_row g l = 3 * l.levels + 2

abbrev pub decreases-read_pairs : goal.decreases-read_pairs
decreases-read_pairs g l = 3 * l.levels + 2

abbrev pub invariant-read_row-loop : goal.invariant-read_row-loop
invariant-read_row-loop g l = record {
  long : length l.values.items ≡ l.counter;
  each : Tells g.R.ByteSource.remaining → IsBounded l.levels l.fn.decoder
      → ReadsEach (ReadsValue ValueMeans) l.fn.decoder l.values.items l.decoder;
  passed : Passed l.fn.decoder l.decoder;
}

abbrev pub invariant-read_pairs-loop : goal.invariant-read_pairs-loop
invariant-read_pairs-loop g l = record {
  long : length l.pairs.items ≡ l.counter;
  each : Tells g.R.ByteSource.remaining → IsBounded l.levels l.fn.decoder
      → Pairs (value_in l.levels) (value_in l.levels) l.fn.decoder l.pairs.items l.decoder;
  passed : Passed l.fn.decoder l.decoder;
}
