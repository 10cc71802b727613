use Rattle.std.proofs.Common.{All, subst, arith}
use Rattle.std.proofs.lemmas.List.{take_all}
use Rattle.std.proofs.lemmas.List.Elements.{All-more}
use Rattle.amqp_values.specs.Typing.{IsTyped, IsTypedPair, list_typed, array_typed, map_typed}
use Rattle.amqp_values.proofs.typing.+typing.Goals as goal

pub value_typed-returns-in-List : goal.value_typed-returns-in-List
value_typed-returns-in-List t c =
    rw c.in-List.is (list_typed c.in-List.values (rw c.as_slice.ensures.value at c.values_typed.ensures))

pub map_typed-returns : goal.map_typed-returns
map_typed-returns t c = map_typed c.args.map.now (rw c.as_slice.ensures.value at c.pairs_typed.ensures)

pub value_typed-returns-in-Array : goal.value_typed-returns-in-Array
value_typed-returns-in-Array t c =
    rw c.in-Array.is (array_typed c.in-Array.values (rw c.as_slice-in-Array.ensures.value at c.values_typed-in-Array.ensures))

pub values_typed-loop-index-preserved : goal.values_typed-loop-index-preserved
values_typed-loop-index-preserved t c =
    All-more IsTyped c.args.values.now c.loop-index.index c.index-values-index.result c.loop-index-test.true c.loop-index.invariant
    (subst IsTyped c.index-values-index.is c.value_typed.ensures)

pub values_typed-returns : goal.values_typed-returns
values_typed-returns t c =
    subst (All IsTyped) (take_all c.loop-index.index c.args.values.now (omega (arith, c.loop-index-test.false))) c.loop-index.invariant

pub pairs_typed-loop-index-preserved : goal.pairs_typed-loop-index-preserved
pairs_typed-loop-index-preserved t c =
    All-more IsTypedPair c.args.pairs.now c.loop-index.index c.index-pairs-index.result c.loop-index-test.true c.loop-index.invariant
    (subst IsTypedPair c.index-pairs-index.is (c.value_typed.ensures, c.value_typed-in-loop-index.ensures))

pub pairs_typed-returns : goal.pairs_typed-returns
pairs_typed-returns t c =
    subst (All IsTypedPair) (take_all c.loop-index.index c.args.pairs.now (omega (arith, c.loop-index-test.false))) c.loop-index.invariant
