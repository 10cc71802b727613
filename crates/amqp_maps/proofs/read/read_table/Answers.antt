use Rattle.std.proofs.Common.{◌<◌, true, inl, inr, rules, arith}
use Rattle.amqp_codec.specs.laws.Refusal.{some_reserved}
use Rattle.std.proofs.lemmas.Result.{err_from_is_err_and}
use Rattle.indexmap.specs.Entry.{map_with_value}
use Rattle.indexmap.specs.declared.map.entry.Entry.TheVariants.{Vacant}
use Rattle.amqp_codec.proofs.MapSteps.{key_refused, key_twice, value_refused, none_reserved, no_place, no_memory}
use Rattle.amqp_maps.proofs.KeyLaws.{absent_new, present_known}
use Rattle.amqp_maps.proofs.PairsRead.{fewer_so_far, one_more_so_far, going_so_far}
use Rattle.amqp_codec.proofs.Tries.{taking_some, passed_then, refused_later}
use Rattle.amqp_maps.proofs.read.read_table.Goals as goal

pub returns-in_err-key-clause-read : goal.returns-in_err-key-clause-read
returns-in_err-key-clause-read g c tells =
    let key = g.K.DeserializeTerm.term in
    let value = g.V.DeserializeTerm.term in
    let p = err_from_is_err_and c.from_residual.result c.from_residual.ensures.1 in
    rw (p.1, p.2)
    (key_refused key value c.args.count _ _ _ _ _ (fewer_so_far key value c.loop.invariant.pairs c.args.count c.loop-test.true tells)
    (c.in_err-key.ensures.read tells))

pub returns-in-Err-clause-read : goal.returns-in-Err-clause-read
returns-in-Err-clause-read g c tells =
    let key = g.K.DeserializeTerm.term in
    let value = g.V.DeserializeTerm.term in
    elim c.in-Err.ensures.refused [
      | inl is ↦ no_place key value c.args.count _ _ _ c.in_ok-key.key _ _ _ (c.loop.invariant.pairs.each tells) (c.in_ok-key.ensures.read tells)
          (rw is at c.refuse_at.ensures.first)
      | inr (is, known) ↦ key_twice key value c.args.count _ _ _ c.in_ok-key.key _ _ _
          (fewer_so_far key value c.loop.invariant.pairs c.args.count c.loop-test.true tells) c.loop.invariant.pairs.others
          (c.in_ok-key.ensures.read tells)
          (present_known g.met.K.MapKey.is_key c.in_ok-key.key c.loop.table.entries known)
          (rw is at c.refuse_at.ensures.first) c.place-start.result c.refuse_at.ensures.place c.place-start.ensures
    ]

pub returns-in_err-value-in-Ok-new_place-clause-read : goal.returns-in_err-value-in-Ok-new_place-clause-read
returns-in_err-value-in-Ok-new_place-clause-read g c tells =
    let key = g.K.DeserializeTerm.term in
    let value = g.V.DeserializeTerm.term in
    let p = err_from_is_err_and c.from_residual-in_err-value-in-Ok-new_place.result c.from_residual-in_err-value-in-Ok-new_place.ensures.1 in
    rw (p.1, p.2)
    (value_refused key value c.args.count _ _ _ c.in_ok-key.key _ _ _
    (fewer_so_far key value c.loop.invariant.pairs c.args.count c.loop-test.true tells) (c.in_ok-key.ensures.read tells)
    (c.in_err-value-in-Ok-new_place.ensures.read tells))

pub loop-preserved : goal.loop-preserved
loop-preserved g c =
    let new = absent_new g.met.K.MapKey.is_key c.in_ok-key.key c.loop.table.entries c.in-Ok-new_place.ensures.new in
    record {
      pairs = one_more_so_far g.K.DeserializeTerm.term g.V.DeserializeTerm.term c.loop.invariant.pairs g.met.K.MapKey.is_key
          (map_with_value (Vacant c.in-Ok-new_place.place)) c.in_ok-key.key c.in_ok-value-in-Ok-new_place.value c.insert.result.now _ _ _ (search rules)
          c.insert.ensures.value c.in-Ok-new_place.ensures.last new c.in_ok-key.ensures.read c.in_ok-value-in-Ok-new_place.ensures.read;
      passed = search rules;
    }

pub returns-in_err-key-clause-tries : goal.returns-in_err-key-clause-tries
returns-in_err-key-clause-tries g c =
    let p = err_from_is_err_and c.from_residual.result c.from_residual.ensures.1 in
    rw (p.1, p.2)
    (refused_later _ true c.args.decoder.now c.loop.decoder _ _ (taking_some _) c.loop.invariant.passed c.in_err-key.ensures.tries)

pub returns-in_err-value-in-Ok-new_place-clause-tries : goal.returns-in_err-value-in-Ok-new_place-clause-tries
returns-in_err-value-in-Ok-new_place-clause-tries g c =
    let p = err_from_is_err_and c.from_residual-in_err-value-in-Ok-new_place.result c.from_residual-in_err-value-in-Ok-new_place.ensures.1 in
    rw (p.1, p.2)
    (refused_later _ true c.args.decoder.now c.read_value.new.decoder _ _ (taking_some _)
    (passed_then c.args.decoder.now c.loop.decoder c.read_value.new.decoder c.loop.invariant.passed c.in_ok-key.ensures.tries) c.in_err-value-in-Ok-new_place.ensures.tries)

pub returns-in_default-clause-read : goal.returns-in_default-clause-read
returns-in_default-clause-read g c tells =
    let some = some_reserved c.args.count c.reservable_pairs-reserved.result c.reservable_pairs-reserved.ensures.few c.in_default.ensures.succeeds in
    none_reserved g.K.DeserializeTerm.term g.V.DeserializeTerm.term c.args.count _ _ _ some
    (rw c.reservable_pairs-reserved.ensures.kept at c.refuse.ensures.first)
    (rw c.reservable_pairs-reserved.ensures.kept at c.refuse.ensures.again)

pub returns-in-Err-of_table-clause-read : goal.returns-in-Err-of_table-clause-read
returns-in-Err-of_table-clause-read g c tells =
    let key = g.K.DeserializeTerm.term in
    let value = g.V.DeserializeTerm.term in
    let some : 0 < c.loop.counter = omega (arith, c.requires, c.loop-test.false) in
    no_memory key value c.args.count c.args.decoder.now c.loop.table.entries c.loop.decoder _ _ (c.loop.invariant.pairs.each tells)
    (going_so_far key value c.loop.invariant.pairs some tells).1 c.refuse-in-Err-of_table.ensures.first
