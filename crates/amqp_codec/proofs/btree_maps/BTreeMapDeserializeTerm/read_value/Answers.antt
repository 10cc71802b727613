use Rattle.std.proofs.Common.{false, true}
use Rattle.std.proofs.lemmas.Result.{err_from_is_err_and}
use Rattle.amqp_codec.specs.BTreeMaps.{order_of_keys}
use Rattle.amqp_codec.proofs.MapSteps.{by_two, open_refused, end_refused}
use Rattle.amqp_codec.proofs.BTreeMapSteps.{refused_in_order, pairs_refused, read_in_order}
use Rattle.amqp_codec.proofs.Tries.{taking_some, began_passed, refused_more, refused_behind}
use Rattle.amqp_codec.proofs.btree_maps.BTreeMapDeserializeTerm.read_value.Goals as goal
use Rattle.amqp_decoder.proofs.Places.{refused_here}

pub returns-in_err-count-clause-read : goal.returns-in_err-count-clause-read
returns-in_err-count-clause-read g c tells =
    let key = g.K.DeserializeTerm.term in
    let value = g.V.DeserializeTerm.term in
    let p = err_from_is_err_and c.from_residual.result c.from_residual.ensures.1 in
    rw (p.1, p.2)
    (refused_in_order key value g.K.Ord.cmp _ _ _ (open_refused key value _ _ _
    (refused_here (c.in_err-count.ensures.read tells) c.in_err-count.ensures.place)))

pub returns-in_err-map-clause-read : goal.returns-in_err-map-clause-read
returns-in_err-map-clause-read g c tells =
    let p = err_from_is_err_and c.from_residual-in_err-map.result c.from_residual-in_err-map.ensures.1 in
    rw (p.1, p.2)
    (pairs_refused g.K.DeserializeTerm.term g.V.DeserializeTerm.term g.K.Ord.cmp _ _ _ _ _ (by_two (c.in_ok-count.ensures.read tells))
    (c.in_err-map.ensures.read tells))

pub returns-in_err-end_map-clause-read : goal.returns-in_err-end_map-clause-read
returns-in_err-end_map-clause-read g c tells =
    let key = g.K.DeserializeTerm.term in
    let value = g.V.DeserializeTerm.term in
    let p = err_from_is_err_and c.from_residual-in_err-end_map.result c.from_residual-in_err-end_map.ensures.1 in
    let read = c.in_ok-map.ensures.read tells in
    rw (p.1, p.2)
    (refused_in_order key value g.K.Ord.cmp _ _ _
    (end_refused key value _ _ _ read.pairs _ _ _ (by_two (c.in_ok-count.ensures.read tells)) read.row
    (refused_here (c.in_err-end_map.ensures.read tells) c.in_err-end_map.ensures.place)))

pub returns-clause-read : goal.returns-clause-read
returns-clause-read g c tells =
    read_in_order g.K.DeserializeTerm.term g.V.DeserializeTerm.term g.K.Ord.cmp _ _ _ c.in_ok-map.map _ _
    (order_of_keys g.met.K.MapKey.is_key g.met.K.Ord.total g.met.K.Ord.matches_eq) (by_two (c.in_ok-count.ensures.read tells))
    (c.in_ok-map.ensures.read tells) (c.in_ok-end_map.ensures.read tells)

pub returns-in_err-count-clause-tries : goal.returns-in_err-count-clause-tries
returns-in_err-count-clause-tries g c =
    let p = err_from_is_err_and c.from_residual.result c.from_residual.ensures.1 in
    rw (p.1, p.2) (refused_more false true c.args.decoder.now _ _ (taking_some _) c.in_err-count.ensures.tries)

pub returns-in_err-map-clause-tries : goal.returns-in_err-map-clause-tries
returns-in_err-map-clause-tries g c =
    let p = err_from_is_err_and c.from_residual-in_err-map.result c.from_residual-in_err-map.ensures.1 in
    rw (p.1, p.2) (refused_behind true true c.args.decoder.now c.begin_map.new.self _ _ (taking_some _) c.in_ok-count.ensures.tries c.in_err-map.ensures.tries)

pub returns-in_err-end_map-clause-tries : goal.returns-in_err-end_map-clause-tries
returns-in_err-end_map-clause-tries g c =
    let p = err_from_is_err_and c.from_residual-in_err-end_map.result c.from_residual-in_err-end_map.ensures.1 in
    rw (p.1, p.2) (refused_behind false true c.args.decoder.now c.read_in_order.new.decoder _ _ (taking_some _)
    (began_passed c.args.decoder.now c.begin_map.new.self c.read_in_order.new.decoder c.in_ok-count.ensures.tries c.in_ok-map.ensures.tries) c.in_err-end_map.ensures.tries)
