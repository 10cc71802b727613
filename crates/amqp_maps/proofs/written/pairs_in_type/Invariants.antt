use Rattle.amqp_codec.proofs.PairsWritten.{OfPairsUpTo}
use Rattle.amqp_maps.proofs.written.pairs_in_type.Given as goal

abbrev pub invariant-loop-key : goal.invariant-loop-key
invariant-loop-key g l =
    OfPairsUpTo g.K.Serialize.writing.is_value g.V.Serialize.writing.is_value l.map l.key-iterator
