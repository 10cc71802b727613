use Rattle.amqp_codec.proofs.NoFields.{none_within}
use Rattle.amqp_codec.proofs.fieldless.AnyFieldList.is_null_field.Goals as goal

pub unreachable-requires : goal.unreachable-requires
unreachable-requires g c = none_within g.F.Fieldless.table.fields _ g.F.Fieldless.no_fields c.requires.within
