use Rattle.std.proofs.Common.{false, true, ◌/◌, arith}
use Rattle.std.proofs.lemmas.Result.{err_from_is_err_and}
use Rattle.amqp_codec.proofs.MapSteps.{by_two}
use Rattle.amqp_codec.proofs.MapSteps as maps
use Rattle.amqp_values.specs.ValueType.{value_type}
use Rattle.amqp_values.proofs.MapReads.{as_map, map_refused, row_any, row_refused_any, map_bounded}
use Rattle.amqp_codec.proofs.Tries.{taking_some, began_passed, refused_more, refused_behind}
use Rattle.amqp_values.proofs.read.ValueMapDeserializeTerm.read_value.Goals as goal
use Rattle.amqp_decoder.proofs.Places.{refused_here}

pub returns-in_err-count-clause-read : goal.returns-in_err-count-clause-read
returns-in_err-count-clause-read g c tells =
    let p = err_from_is_err_and c.from_residual.result c.from_residual.ensures.1 in
    rw (p.1, p.2) (map_refused _ _ _ (maps.open_refused value_type value_type _ _ _ (refused_here (c.in_err-count.ensures.read tells) c.in_err-count.ensures.place)))

pub returns-in_err-pairs-clause-read : goal.returns-in_err-pairs-clause-read
returns-in_err-pairs-clause-read g c tells =
    let p = err_from_is_err_and c.from_residual-in_err-pairs.result c.from_residual-in_err-pairs.ensures.1 in
    let opened = c.in_ok-count.ensures.read tells in
    let bounded = map_bounded _ _ _ opened (omega (arith, c.room.ensures.limit)) in
    rw (p.1, p.2)
    (map_refused _ _ _
    (maps.row_refused value_type value_type _ _ _ _ _ (by_two opened)
    (row_refused_any 128 (c.in_ok-count.count / 2) _ _ _ (c.in_err-pairs.ensures.read tells bounded))))

pub returns-in_err-end_map-clause-read : goal.returns-in_err-end_map-clause-read
returns-in_err-end_map-clause-read g c tells =
    let p = err_from_is_err_and c.from_residual-in_err-end_map.result c.from_residual-in_err-end_map.ensures.1 in
    let opened = c.in_ok-count.ensures.read tells in
    let bounded = map_bounded _ _ _ opened (omega (arith, c.room.ensures.limit)) in
    let row = row_any 128 (c.in_ok-count.count / 2) _ c.in_ok-pairs.pairs.items _ (c.in_ok-pairs.ensures.read tells bounded) in
    rw (p.1, p.2)
    (map_refused _ _ _
    (maps.end_refused value_type value_type _ _ _ c.in_ok-pairs.pairs.items _ _ _ (by_two opened) row (refused_here (c.in_err-end_map.ensures.read tells) c.in_err-end_map.ensures.place)))

pub returns-clause-read : goal.returns-clause-read
returns-clause-read g c tells =
    let opened = c.in_ok-count.ensures.read tells in
    let bounded = map_bounded _ _ _ opened (omega (arith, c.room.ensures.limit)) in
    let row = row_any 128 (c.in_ok-count.count / 2) _ c.in_ok-pairs.pairs.items _ (c.in_ok-pairs.ensures.read tells bounded) in
    as_map _ (record { 0 = c.in_ok-pairs.pairs }) _
    (maps.all_read value_type value_type _ _ _ c.in_ok-pairs.pairs.items _ _ (by_two opened) row (c.in_ok-end_map.ensures.read tells))

pub returns-in_err-count-clause-tries : goal.returns-in_err-count-clause-tries
returns-in_err-count-clause-tries g c =
    let p = err_from_is_err_and c.from_residual.result c.from_residual.ensures.1 in
    rw (p.1, p.2)
    (refused_more false true c.args.decoder.now _ _ (taking_some _) c.in_err-count.ensures.tries)

pub returns-in_err-pairs-clause-tries : goal.returns-in_err-pairs-clause-tries
returns-in_err-pairs-clause-tries g c =
    let p = err_from_is_err_and c.from_residual-in_err-pairs.result c.from_residual-in_err-pairs.ensures.1 in
    rw (p.1, p.2)
    (refused_behind true true c.args.decoder.now c.begin_map.new.self _ _ (taking_some _) c.in_ok-count.ensures.tries c.in_err-pairs.ensures.tries)

pub returns-in_err-end_map-clause-tries : goal.returns-in_err-end_map-clause-tries
returns-in_err-end_map-clause-tries g c =
    let p = err_from_is_err_and c.from_residual-in_err-end_map.result c.from_residual-in_err-end_map.ensures.1 in
    rw (p.1, p.2)
    (refused_behind false true c.args.decoder.now c.read_pairs.new.decoder _ _ (taking_some _)
    (began_passed c.args.decoder.now c.begin_map.new.self c.read_pairs.new.decoder c.in_ok-count.ensures.tries c.in_ok-pairs.ensures.tries) c.in_err-end_map.ensures.tries)
