use Rattle.std.proofs.Common.{◌≤◌}
use Rattle.amqp_encoder.specs.State.{Encoder}
use Rattle.amqp_codec.specs.FieldWriting.{IsPending}
use Rattle.amqp_codec.proofs.fields.write_others.Given as goal

abbrev pub invariant-loop-index : goal.invariant-loop-index
invariant-loop-index g l =
    (l.nulls ≤ l.index)
    × ((start : Encoder) → IsPending g.L.FieldList.list.fields l.value 16 l.fn.nulls start l.fn.encoder
    → IsPending g.L.FieldList.list.fields l.value l.index l.nulls start l.encoder)
