use Rattle.amqp_codec.proofs.PairsWritten.{none_of_types, pair_of_types, all_of_types}
use Rattle.amqp_maps.proofs.written.pairs_in_type.Goals as goal

pub loop-key-init : goal.loop-key-init
loop-key-init g c =
    none_of_types g.K.Serialize.writing.is_value g.V.Serialize.writing.is_value _ _
    c.into_iter-key-iterator.ensures.into_iter_gives.0

pub loop-key-preserved : goal.loop-key-preserved
loop-key-preserved g c =
    pair_of_types g.K.Serialize.writing.is_value g.V.Serialize.writing.is_value _ _ _ (c.in-Some.key.now, c.in-Some.value.now)
    c.in-Some.ensures.steps c.loop-key.invariant c.pair_in_type.ensures.key c.pair_in_type.ensures.value

pub returns : goal.returns
returns g c =
    all_of_types g.K.Serialize.writing.is_value g.V.Serialize.writing.is_value _ _ c.in-None.ensures.steps.0 c.loop-key.invariant
