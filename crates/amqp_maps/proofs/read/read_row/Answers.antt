use Rattle.std.proofs.Common.{◌≡◌, true, inl, inr, [], ◌∷◌, ◌++◌, ap, sym, subst, rules}
use Rattle.amqp_codec.specs.laws.Refusal.{some_reserved}
use Rattle.std.proofs.lemmas.Result.{err_from_is_err_and}
use Rattle.amqp_codec.proofs.MapSteps.{key_refused, key_twice, value_refused, none_reserved, no_place}
use Rattle.amqp_maps.proofs.KeyLaws.{absent_new, present_known}
use Rattle.amqp_decoder.specs.State.{State}
use Rattle.amqp_decoder.specs.Steps.{unsized}
use Rattle.amqp_maps.specs.Pairs.{HaveDistinctKeys}
use Rattle.amqp_maps.proofs.KeysApart.{added_distinct, none_distinct, put_behind}
use Rattle.amqp_maps.proofs.PairsRead.{none_so_far, fewer_so_far, put_so_far}
use Rattle.amqp_codec.proofs.Tries.{taking_some, passed_then, refused_later}
use Rattle.amqp_maps.proofs.read.read_row.Goals as goal

pub loop-init : goal.loop-init
loop-init g c =
    let kept = c.reservable_pairs-reserved.ensures.kept in
    record {
      pairs = none_so_far g.K.DeserializeTerm.term g.V.DeserializeTerm.term c.args.decoder.now c.in-Ok.row.items
          c.reservable_pairs-reserved.new.decoder c.in-Ok.ensures.items kept;
      passed = ((ap (λ (st : State). st.error) kept, ap (λ (st : State). unsized st.failed) kept), λ d x. kept);
      distinct = subst (HaveDistinctKeys g.K.PartialEq.eq) (sym c.in-Ok.ensures.items) (none_distinct g.row.V.Denot g.K.PartialEq.eq);
    }

pub returns-in_err-key-clause-read : goal.returns-in_err-key-clause-read
returns-in_err-key-clause-read g c tells =
    let key = g.K.DeserializeTerm.term in
    let value = g.V.DeserializeTerm.term in
    let p = err_from_is_err_and c.from_residual.result c.from_residual.ensures.1 in
    rw (p.1, p.2)
    (key_refused key value c.args.count _ _ _ _ _ (fewer_so_far key value c.loop.invariant.pairs c.args.count c.loop-test.true tells)
    (c.in_err-key.ensures.read tells))

pub returns-in-Err-clause-read : goal.returns-in-Err-clause-read
returns-in-Err-clause-read g c tells =
    let key = g.K.DeserializeTerm.term in
    let value = g.V.DeserializeTerm.term in
    elim c.in-Err.ensures.refused [
      | inl is ↦ no_place key value c.args.count _ _ _ c.in_ok-key.key _ _ _ (c.loop.invariant.pairs.each tells) (c.in_ok-key.ensures.read tells)
          (rw is at c.refuse_at.ensures.first)
      | inr (is, known) ↦ key_twice key value c.args.count _ _ _ c.in_ok-key.key _ _ _
          (fewer_so_far key value c.loop.invariant.pairs c.args.count c.loop-test.true tells) c.loop.invariant.pairs.others
          (c.in_ok-key.ensures.read tells)
          (present_known g.met.K.MapKey.is_key c.in_ok-key.key c.loop.row.items known)
          (rw is at c.refuse_at.ensures.first) c.place-start.result c.refuse_at.ensures.place c.place-start.ensures
    ]

pub returns-in_err-value-in-Ok-make_room-clause-read : goal.returns-in_err-value-in-Ok-make_room-clause-read
returns-in_err-value-in-Ok-make_room-clause-read g c tells =
    let key = g.K.DeserializeTerm.term in
    let value = g.V.DeserializeTerm.term in
    let p = err_from_is_err_and c.from_residual-in_err-value-in-Ok-make_room.result c.from_residual-in_err-value-in-Ok-make_room.ensures.1 in
    rw (p.1, p.2)
    (value_refused key value c.args.count _ _ _ c.in_ok-key.key _ _ _
    (fewer_so_far key value c.loop.invariant.pairs c.args.count c.loop-test.true tells) (c.in_ok-key.ensures.read tells)
    (c.in_err-value-in-Ok-make_room.ensures.read tells))

pub loop-preserved : goal.loop-preserved
loop-preserved g c =
    let ps = c.loop.row.items in
    let k = c.in_ok-key.key in
    let v = c.in_ok-value-in-Ok-make_room.value in
    let put : c.push_reserved.new.self.items ≡ ps ++ (k, v) ∷ [] =
    put_behind c.push_reserved.new.self.items c.make_room.new.row.items ps (k, v) c.push_reserved.ensures.items
    c.make_room.ensures.same_pairs in
    record {
      pairs = put_so_far g.K.DeserializeTerm.term g.V.DeserializeTerm.term c.loop.invariant.pairs k v _ _ _ put
          (absent_new g.met.K.MapKey.is_key k ps c.in-Ok-make_room.ensures.new) c.in_ok-key.ensures.read
          c.in_ok-value-in-Ok-make_room.ensures.read;
      passed = search rules;
      distinct = added_distinct g.K.PartialEq.eq g.met.K.Eq.laws k v ps _ put c.in-Ok-make_room.ensures.new c.loop.invariant.distinct;
    }

pub returns-in_err-key-clause-tries : goal.returns-in_err-key-clause-tries
returns-in_err-key-clause-tries g c =
    let p = err_from_is_err_and c.from_residual.result c.from_residual.ensures.1 in
    rw (p.1, p.2)
    (refused_later _ true c.args.decoder.now c.loop.decoder _ _ (taking_some _) c.loop.invariant.passed c.in_err-key.ensures.tries)

pub returns-in_err-value-in-Ok-make_room-clause-tries : goal.returns-in_err-value-in-Ok-make_room-clause-tries
returns-in_err-value-in-Ok-make_room-clause-tries g c =
    let p = err_from_is_err_and c.from_residual-in_err-value-in-Ok-make_room.result c.from_residual-in_err-value-in-Ok-make_room.ensures.1 in
    rw (p.1, p.2)
    (refused_later _ true c.args.decoder.now c.read_value.new.decoder _ _ (taking_some _)
    (passed_then c.args.decoder.now c.loop.decoder c.read_value.new.decoder c.loop.invariant.passed c.in_ok-key.ensures.tries) c.in_err-value-in-Ok-make_room.ensures.tries)

pub returns-in_default-clause-read : goal.returns-in_default-clause-read
returns-in_default-clause-read g c tells =
    let some = some_reserved c.args.count c.reservable_pairs-reserved.result c.reservable_pairs-reserved.ensures.few c.in_default.ensures.succeeds in
    none_reserved g.K.DeserializeTerm.term g.V.DeserializeTerm.term c.args.count _ _ _ some
    (rw c.reservable_pairs-reserved.ensures.kept at c.refuse.ensures.first)
    (rw c.reservable_pairs-reserved.ensures.kept at c.refuse.ensures.again)
