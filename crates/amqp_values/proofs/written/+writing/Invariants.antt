use Rattle.std.proofs.Common.{take}
use Rattle.std.specs.Prelude.{Ok}
use Rattle.std.specs.List.{flat_map}
use Rattle.amqp_codec.specs.Written.{WritesTerms}
use Rattle.amqp_values.specs.Canon.{value_canons, pair_canon}
use Rattle.amqp_values.proofs.written.+writing.Given as goal

abbrev pub invariant-write_values-loop-index : goal.invariant-write_values-loop-index
invariant-write_values-loop-index g l = WritesTerms (flat_map value_canons (take l.index l.values)) l.fn.encoder (Ok tt) l.encoder

abbrev pub invariant-write_pairs-loop-index : goal.invariant-write_pairs-loop-index
invariant-write_pairs-loop-index g l = WritesTerms (flat_map pair_canon (take l.index l.pairs)) l.fn.encoder (Ok tt) l.encoder
