use Rattle.std.proofs.Common.{length, sym, ap, arith}
use Rattle.amqp_codec.proofs.Pending.{pending_past, pending_null, value_written, nulls_refused}
use Rattle.amqp_codec.proofs.fields.write_one.Goals as goal

pub returns-then-index-field_rules-clause-written : goal.returns-then-index-field_rules-clause-written
returns-then-index-field_rules-clause-written g c start p =
    pending_past g.L.FieldList.list.fields c.args.value.now c.args.index _ _ _
    (omega (arith, ap length c.field_rules.ensures, c.if-index-field_rules.true)) p

pub returns-then-is_null_field-clause-written : goal.returns-then-is_null_field-clause-written
returns-then-is_null_field-clause-written g c start p =
    pending_null g.L.FieldList.list.fields c.args.value.now c.args.index _ _ _
    (omega (arith, ap length c.field_rules.ensures, c.if-index-field_rules.false)) c.if-is_null_field.ensures p

pub returns-in-Ok-clause-written : goal.returns-in-Ok-clause-written
returns-in-Ok-clause-written g c start p =
    value_written g.L.FieldList.list.fields c.args.value.now c.args.index _ _ _ _
    (omega (arith, ap length c.field_rules.ensures, c.if-index-field_rules.false)) c.if-is_null_field.ensures p _ _ _ _ c.in-Ok.is
    c.in-Ok.ensures.counted c.write_pending.ensures.none c.write_pending.ensures.written
    (c.write_field.ensures (sym c.if-is_null_field.ensures))

pub returns-in-Err-clause-written : goal.returns-in-Err-clause-written
returns-in-Err-clause-written g c start p =
    nulls_refused g.L.FieldList.list.fields c.args.value.now c.args.index _ _ _ _
    (omega (arith, ap length c.field_rules.ensures, c.if-index-field_rules.false)) c.if-is_null_field.ensures p _ _ c.in-Err.is
    c.write_pending.ensures.none c.write_pending.ensures.written
