use Rattle.std.proofs.Common.{take}
use Rattle.std.specs.Prelude.{Ok}
use Rattle.std.specs.List.{flat_map}
use Rattle.amqp_codec.specs.Written.{WritesTerms}
use Rattle.amqp_codec.proofs.lists.write_each.Given as goal

abbrev pub invariant-loop-value : goal.invariant-loop-value
invariant-loop-value g l =
    WritesTerms (flat_map g.T.Serialize.writing.canons (take l.value-index l.values)) l.fn.encoder (Ok tt) l.encoder
