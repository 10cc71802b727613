use Rattle.std.proofs.Common.{All, take}
use Rattle.amqp_values.specs.Typing.{IsTyped, IsTypedPair}
use Rattle.amqp_values.proofs.typing.+typing.Given as goal

abbrev pub invariant-values_typed-loop-index : goal.invariant-values_typed-loop-index
invariant-values_typed-loop-index l = All IsTyped (take l.index l.values)

abbrev pub invariant-pairs_typed-loop-index : goal.invariant-pairs_typed-loop-index
invariant-pairs_typed-loop-index l = All IsTypedPair (take l.index l.pairs)
