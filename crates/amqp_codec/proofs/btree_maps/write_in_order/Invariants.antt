use Rattle.amqp_codec.proofs.PairsWritten.{WrittenUpTo}
use Rattle.amqp_codec.proofs.btree_maps.write_in_order.Given as goal

abbrev pub invariant-loop-key : goal.invariant-loop-key
invariant-loop-key g l =
    WrittenUpTo g.K.Serialize.writing g.V.Serialize.writing l.map.entries l.key-iterator l.fn.encoder l.encoder
