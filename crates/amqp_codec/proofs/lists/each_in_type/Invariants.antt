use Rattle.std.proofs.Common.{All, take}
use Rattle.amqp_codec.proofs.lists.each_in_type.Given as goal

abbrev pub invariant-loop-value : goal.invariant-loop-value
invariant-loop-value g l = All g.T.Serialize.writing.is_value (take l.value-index l.values)
