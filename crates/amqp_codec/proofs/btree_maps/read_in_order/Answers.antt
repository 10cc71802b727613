use Rattle.std.proofs.Common.{true, rules}
use Rattle.std.proofs.lemmas.Result.{err_from_is_err_and}
use Rattle.amqp_codec.specs.laws.FoundKeys.{unfound_new, found_known}
use Rattle.amqp_codec.specs.BTreeMaps.{key_by_order, order_of_keys}
use Rattle.amqp_codec.proofs.MapSteps.{key_refused, key_twice, value_refused, no_room}
use Rattle.amqp_codec.proofs.BTreeMapSteps.{fewer_so_far, known_to_pairs, one_more_so_far, row_refused_in_order}
use Rattle.amqp_codec.proofs.Tries.{taking_some, passed_then, refused_later}
use Rattle.amqp_codec.proofs.btree_maps.read_in_order.Goals as goal

pub returns-in_err-key-clause-read : goal.returns-in_err-key-clause-read
returns-in_err-key-clause-read g c tells =
    let key = g.K.DeserializeTerm.term in
    let value = g.V.DeserializeTerm.term in
    let p = err_from_is_err_and c.from_residual.result c.from_residual.ensures.1 in
    rw (p.1, p.2)
    (row_refused_in_order key value g.K.Ord.cmp c.args.count _ _ _
    (key_refused key value c.args.count _ _ _ _ _
    (fewer_so_far key value g.K.Ord.cmp c.loop.invariant.pairs c.args.count c.loop-test.true tells) (c.in_err-key.ensures.read tells)))

pub returns-then-is_known-clause-read : goal.returns-then-is_known-clause-read
returns-then-is_known-clause-read g c tells =
    let key = g.K.DeserializeTerm.term in
    let value = g.V.DeserializeTerm.term in
    let known = found_known (key_by_order g.met.K.MapKey.is_key g.met.K.Ord.total g.met.K.Ord.matches_eq) c.is_known.result
    c.in_ok-key.key c.loop.map.entries c.if-is_known.true c.is_known.ensures in
    row_refused_in_order key value g.K.Ord.cmp c.args.count _ _ _
    (key_twice key value c.args.count _ _ _ c.in_ok-key.key _ _ _
    (fewer_so_far key value g.K.Ord.cmp c.loop.invariant.pairs c.args.count c.loop-test.true tells) c.loop.invariant.pairs.others
    (c.in_ok-key.ensures.read tells) (known_to_pairs key value g.K.Ord.cmp c.loop.invariant.pairs c.in_ok-key.key known) c.refuse_at.ensures.first
    c.place-place.result c.refuse_at.ensures.place c.place-place.ensures)

pub returns-in_err-value-clause-read : goal.returns-in_err-value-clause-read
returns-in_err-value-clause-read g c tells =
    let key = g.K.DeserializeTerm.term in
    let value = g.V.DeserializeTerm.term in
    let p = err_from_is_err_and c.from_residual-in_err-value.result c.from_residual-in_err-value.ensures.1 in
    rw (p.1, p.2)
    (row_refused_in_order key value g.K.Ord.cmp c.args.count _ _ _
    (value_refused key value c.args.count _ _ _ c.in_ok-key.key _ _ _
    (fewer_so_far key value g.K.Ord.cmp c.loop.invariant.pairs c.args.count c.loop-test.true tells) (c.in_ok-key.ensures.read tells)
    (c.in_err-value.ensures.read tells)))

pub returns-then-is_err-clause-read : goal.returns-then-is_err-clause-read
returns-then-is_err-clause-read g c tells =
    let key = g.K.DeserializeTerm.term in
    let value = g.V.DeserializeTerm.term in
    row_refused_in_order key value g.K.Ord.cmp c.args.count _ _ _
    (no_room key value c.args.count _ _ _ c.in_ok-key.key _ c.in_ok-value.value _ _ _ (c.loop.invariant.pairs.each tells)
    (c.in_ok-key.ensures.read tells) (c.in_ok-value.ensures.read tells) c.refuse.ensures.first)

pub loop-preserved : goal.loop-preserved
loop-preserved g c =
    let key = g.K.DeserializeTerm.term in
    let value = g.V.DeserializeTerm.term in
    let is_key = g.met.K.MapKey.is_key in
    let total = g.met.K.Ord.total in
    let ties = g.met.K.Ord.matches_eq in
    let new = unfound_new (key_by_order is_key total ties) c.is_known.result c.in_ok-key.key c.loop.map.entries c.if-is_known.false
    c.is_known.ensures in
    record {
      pairs = one_more_so_far key value g.K.Ord.cmp c.loop.invariant.pairs c.insert.result c.is_err.result
          (order_of_keys is_key total ties) c.in_ok-key.key c.in_ok-value.value _ _ c.insert.new.self c.if-is_err.false
          c.is_err.ensures.value c.insert.ensures.entries new c.in_ok-key.ensures.read c.in_ok-value.ensures.read;
      passed = search rules;
    }

pub returns-in_err-key-clause-tries : goal.returns-in_err-key-clause-tries
returns-in_err-key-clause-tries g c =
    let p = err_from_is_err_and c.from_residual.result c.from_residual.ensures.1 in
    rw (p.1, p.2) (refused_later _ true c.args.decoder.now c.loop.decoder _ _ (taking_some _) c.loop.invariant.passed c.in_err-key.ensures.tries)

pub returns-in_err-value-clause-tries : goal.returns-in_err-value-clause-tries
returns-in_err-value-clause-tries g c =
    let p = err_from_is_err_and c.from_residual-in_err-value.result c.from_residual-in_err-value.ensures.1 in
    rw (p.1, p.2) (refused_later _ true c.args.decoder.now c.read_value.new.decoder _ _ (taking_some _)
    (passed_then c.args.decoder.now c.loop.decoder c.read_value.new.decoder c.loop.invariant.passed c.in_ok-key.ensures.tries) c.in_err-value.ensures.tries)
