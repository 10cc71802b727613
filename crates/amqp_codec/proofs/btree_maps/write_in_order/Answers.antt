use Rattle.std.proofs.Common.{sym}
use Rattle.std.proofs.lemmas.Result.{err_from_is_err_and}
use Rattle.amqp_codec.proofs.Joining.{no_terms}
use Rattle.amqp_codec.proofs.PairsWritten.{none_written, pair_written, pair_refused, all_pairs_written}
use Rattle.amqp_codec.proofs.btree_maps.write_in_order.Goals as goal

pub loop-key-init : goal.loop-key-init
loop-key-init g c =
    none_written g.K.Serialize.writing g.V.Serialize.writing _ _ _ c.into_iter-key-iterator.ensures.into_iter_gives.0
    (no_terms _ _ (sym c.requires.going))

pub returns-in_err-write_pair : goal.returns-in_err-write_pair
returns-in_err-write_pair g c =
    pair_refused g.K.Serialize.writing g.V.Serialize.writing _ _ _ (c.in-Some.key.now, c.in-Some.value.now) _ _ _ _ _ _
    c.in-Some.ensures.steps c.in_err-write_pair.was (err_from_is_err_and c.from_residual.result c.from_residual.ensures.1)
    c.loop-key.invariant c.write_pair.ensures

pub loop-key-preserved : goal.loop-key-preserved
loop-key-preserved g c =
    pair_written g.K.Serialize.writing g.V.Serialize.writing _ _ _ (c.in-Some.key.now, c.in-Some.value.now) _ _ _ _
    c.in-Some.ensures.steps c.in_ok-write_pair.was c.loop-key.invariant c.write_pair.ensures

pub returns : goal.returns
returns g c =
    all_pairs_written g.K.Serialize.writing g.V.Serialize.writing _ _ _ _ c.in-None.ensures.steps.0 c.loop-key.invariant
