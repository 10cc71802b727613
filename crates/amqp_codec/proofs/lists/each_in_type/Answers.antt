use Rattle.std.proofs.Common.{All, subst, arith}
use Rattle.std.proofs.lemmas.List.{take_all}
use Rattle.std.proofs.lemmas.List.Elements.{All-more}
use Rattle.amqp_codec.proofs.lists.each_in_type.Goals as goal

pub loop-value-preserved : goal.loop-value-preserved
loop-value-preserved g c =
    let is_value = g.T.Serialize.writing.is_value in
    All-more is_value c.args.values.now c.loop-value.value-index c.value-item.result c.loop-value-test.true c.loop-value.invariant
    (subst is_value c.value-item.is c.in_type.ensures)

pub returns : goal.returns
returns g c =
    subst (All g.T.Serialize.writing.is_value)
    (take_all c.loop-value.value-index c.args.values.now (omega (arith, c.loop-value-test.false))) c.loop-value.invariant
