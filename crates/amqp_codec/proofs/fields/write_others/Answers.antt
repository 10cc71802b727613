use Rattle.std.proofs.Common.{length, ap, arith}
use Rattle.amqp_codec.proofs.Pending.{pending_all}
use Rattle.amqp_codec.proofs.fields.write_others.Goals as goal

pub loop-index-preserved : goal.loop-index-preserved
loop-index-preserved g c =
    (c.in_default.ensures.nulls, λ start p. c.in_default.ensures.written start (c.loop-index.invariant.1 start p))

pub returns-in-Err : goal.returns-in-Err
returns-in-Err g c start p = c.in-Err.ensures.written start (c.loop-index.invariant.1 start p)

pub returns : goal.returns
returns g c start p =
    pending_all g.L.FieldList.list.fields c.args.value.now c.loop-index.index _ _ _
    (omega (arith, ap length c.field_rules-index-end.ensures, c.loop-index-test.false)) (c.loop-index.invariant.1 start p)
