use Rattle.amqp_codec.proofs.PairsWritten.{OfPairsUpTo}
use Rattle.amqp_codec.proofs.btree_maps.entries_in_type.Given as goal

abbrev pub invariant-loop-key : goal.invariant-loop-key
invariant-loop-key g l =
    OfPairsUpTo g.K.Serialize.writing.is_value g.V.Serialize.writing.is_value l.entries.entries l.key-iterator
