use Rattle.amqp_wire.specs.Sources.{Tells}
use Rattle.amqp_decoder.specs.Steps.{Passed}
use Rattle.amqp_codec.proofs.BTreeMapSteps.{InOrderSoFar}
use Rattle.amqp_codec.proofs.btree_maps.read_in_order.Given as goal

abbrev pub invariant-loop : goal.invariant-loop
invariant-loop g l = record {
  pairs : InOrderSoFar g.K.DeserializeTerm.term g.V.DeserializeTerm.term g.K.Ord.cmp (Tells g.R.ByteSource.remaining) l.counter
      l.fn.decoder l.map l.decoder;
  passed : Passed l.fn.decoder l.decoder;
}
