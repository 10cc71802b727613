use Rattle.std.proofs.Common.{false, true}
use Rattle.std.proofs.lemmas.Result.{err_from_is_err_and}
use Rattle.amqp_codec.proofs.MapSteps.{by_two, open_refused, row_refused, end_refused, all_read}
use Rattle.amqp_codec.proofs.Tries.{taking_some, began_passed, refused_more, refused_behind}
use Rattle.amqp_maps.proofs.read.OrderedMapDeserializeTerm.read_value.Goals as goal
use Rattle.amqp_decoder.proofs.Places.{refused_here}

pub returns-in_err-count-clause-read : goal.returns-in_err-count-clause-read
returns-in_err-count-clause-read g c tells =
    let p = err_from_is_err_and c.from_residual.result c.from_residual.ensures.1 in
    rw (p.1, p.2)
    (open_refused g.K.DeserializeTerm.term g.V.DeserializeTerm.term _ _ _ (refused_here (c.in_err-count.ensures.read tells) c.in_err-count.ensures.place))

pub returns-in_err-pairs-clause-read : goal.returns-in_err-pairs-clause-read
returns-in_err-pairs-clause-read g c tells =
    let p = err_from_is_err_and c.from_residual-in_err-pairs.result c.from_residual-in_err-pairs.ensures.1 in
    rw (p.1, p.2)
    (row_refused g.K.DeserializeTerm.term g.V.DeserializeTerm.term _ _ _ _ _
    (by_two (c.in_ok-count.ensures.read tells)) (c.in_err-pairs.ensures.read tells))

pub returns-in_err-end_map-clause-read : goal.returns-in_err-end_map-clause-read
returns-in_err-end_map-clause-read g c tells =
    let p = err_from_is_err_and c.from_residual-in_err-end_map.result c.from_residual-in_err-end_map.ensures.1 in
    rw (p.1, p.2)
    (end_refused g.K.DeserializeTerm.term g.V.DeserializeTerm.term _ _ _ c.in_ok-pairs.pairs _ _ _
    (by_two (c.in_ok-count.ensures.read tells)) (c.in_ok-pairs.ensures.read tells) (refused_here (c.in_err-end_map.ensures.read tells) c.in_err-end_map.ensures.place))

pub returns-clause-read : goal.returns-clause-read
returns-clause-read g c tells =
    all_read g.K.DeserializeTerm.term g.V.DeserializeTerm.term _ _ _ c.in_ok-pairs.pairs _ _
    (by_two (c.in_ok-count.ensures.read tells)) (c.in_ok-pairs.ensures.read tells) (c.in_ok-end_map.ensures.read tells)

pub returns-in_err-count-clause-tries : goal.returns-in_err-count-clause-tries
returns-in_err-count-clause-tries g c =
    let p = err_from_is_err_and c.from_residual.result c.from_residual.ensures.1 in
    rw (p.1, p.2)
    (refused_more false true c.args.decoder.now _ _ (taking_some _) c.in_err-count.ensures.tries)

pub returns-in_err-pairs-clause-tries : goal.returns-in_err-pairs-clause-tries
returns-in_err-pairs-clause-tries g c =
    let p = err_from_is_err_and c.from_residual-in_err-pairs.result c.from_residual-in_err-pairs.ensures.1 in
    rw (p.1, p.2)
    (refused_behind true true c.args.decoder.now c.begin_map.new.self _ _ (taking_some _) c.in_ok-count.ensures.tries c.in_err-pairs.ensures.tries)

pub returns-in_err-end_map-clause-tries : goal.returns-in_err-end_map-clause-tries
returns-in_err-end_map-clause-tries g c =
    let p = err_from_is_err_and c.from_residual-in_err-end_map.result c.from_residual-in_err-end_map.ensures.1 in
    rw (p.1, p.2)
    (refused_behind false true c.args.decoder.now c.read_pairs.new.decoder _ _ (taking_some _)
    (began_passed c.args.decoder.now c.begin_map.new.self c.read_pairs.new.decoder c.in_ok-count.ensures.tries c.in_ok-pairs.ensures.tries) c.in_err-end_map.ensures.tries)
