use Rattle.amqp_wire.specs.Sources.{Tells}
use Rattle.amqp_decoder.specs.Steps.{Began}
use Rattle.amqp_codec.specs.FieldReading.{FieldsSoFar, IsBlank}
use Rattle.amqp_codec.proofs.fields.fill_fields.Given as goal

abbrev pub invariant-loop-index : goal.invariant-loop-index
invariant-loop-index g l = record {
  fields : IsBlank g.L.FieldList.list.fields l.fn.value → Tells g.R.ByteSource.remaining
      → FieldsSoFar g.L.FieldList.list.fields l.fn.decoder l.count l.index l.value l.decoder;
  began : Began l.fn.decoder l.decoder;
}
