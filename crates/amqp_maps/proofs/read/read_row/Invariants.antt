use Rattle.amqp_wire.specs.Sources.{Tells}
use Rattle.amqp_decoder.specs.Steps.{Passed}
use Rattle.amqp_maps.specs.Pairs.{HaveDistinctKeys}
use Rattle.amqp_maps.proofs.PairsRead.{PairsSoFar}
use Rattle.amqp_maps.proofs.read.read_row.Given as goal

abbrev pub invariant-loop : goal.invariant-loop
invariant-loop g l = record {
  pairs : PairsSoFar g.K.DeserializeTerm.term g.V.DeserializeTerm.term (Tells g.R.ByteSource.remaining) l.counter l.fn.decoder
      l.row.items l.decoder;
  passed : Passed l.fn.decoder l.decoder;
  distinct : HaveDistinctKeys g.K.PartialEq.eq l.row.items;
}
