use Rattle.std.proofs.Common.{◌≡◌, ◌++◌, ◌∷◌, [], length, sym, ap, subst, ◌∙◌, arith, slice_set, IsSome}
use Rattle.std.proofs.lemmas.List.{length-set, length_push}
use Rattle.std.specs.Map.{lookup}
use Rattle.indexmap.specs.IndexMap.{insert_entry}
use Rattle.amqp_maps.specs.Kept.{IsSound, pairs_of}
use Rattle.amqp_maps.specs.Pairs.{HaveDistinctKeys}
use Rattle.amqp_maps.proofs.KeysApart.{inserted_distinct}
use Rattle.amqp_maps.proofs.Places.{none_of, value_at, no_value, not_known, set_at, put_last}
use Rattle.amqp_maps.proofs.pairs.Pairs.insert.Goals as goal

pub returns-in-Some-clause-replaced : goal.returns-in-Some-clause-replaced
returns-in-Some-clause-replaced g c =
    rw (c.in-Row.is, c.replace.ensures.value)
    (value_at (g.K.PartialEq.eq c.args.key) c.in-Row.row.items c.in-Some.place c.index_mut.result.now
    (sym (rw c.as_slice.ensures.value at c.place_in.ensures) ∙ c.in-Some.is) c.index_mut.ensures.value)

pub returns-in-Some-clause-inserted : goal.returns-in-Some-clause-inserted
returns-in-Some-clause-inserted g c =
    rw (c.in-Row.is, c.replace.ensures.after)
    (set_at g.K.PartialEq.eq c.args.key c.args.value c.in-Row.row.items c.in-Some.place c.index_mut.result.now
    (sym (rw c.as_slice.ensures.value at c.place_in.ensures) ∙ c.in-Some.is) c.index_mut.ensures.value)

pub returns-in-Some-clause-sound : goal.returns-in-Some-clause-sound
returns-in-Some-clause-sound g c =
    let row = c.in-Row.row.items in
    let was = subst (IsSound g.K.PartialEq.eq) c.in-Row.is c.requires in
    let few = was.few in
    let put : slice_set row c.in-Some.place (c.index_mut.result.now.0, c.replace.new.dest)
    ≡ insert_entry g.K.PartialEq.eq row c.args.key c.args.value =
    rw c.replace.ensures.after
    (set_at g.K.PartialEq.eq c.args.key c.args.value row c.in-Some.place c.index_mut.result.now
    (sym (rw c.as_slice.ensures.value at c.place_in.ensures) ∙ c.in-Some.is) c.index_mut.ensures.value) in
    record {
      distinct = subst (HaveDistinctKeys g.K.PartialEq.eq) (sym put)
          (inserted_distinct g.K.PartialEq.eq g.met.K.Eq.laws c.args.key c.args.value row was.distinct);
      few = omega (arith, length-set row c.in-Some.place (c.index_mut.result.now.0, c.replace.new.dest), few);
    }

pub returns-in_err-push-in-Row-clause-known : goal.returns-in_err-push-in-Row-clause-known
returns-in_err-push-in-Row-clause-known g c known =
    let test = g.K.PartialEq.eq c.args.key in
    absurd (not_known test c.in-Row.row.items
    (sym (rw c.as_slice.ensures.value at c.place_in.ensures) ∙ none_of c.place_in.result c.in_default.not-Some)
    (subst (λ pairs. IsSome (lookup test (pairs_of pairs))) c.in-Row.is known))

pub returns-then-len-lt-FEW-clause-replaced : goal.returns-then-len-lt-FEW-clause-replaced
returns-then-len-lt-FEW-clause-replaced g c =
    rw c.in-Row.is
    (no_value (g.K.PartialEq.eq c.args.key) c.in-Row.row.items
    (sym (rw c.as_slice.ensures.value at c.place_in.ensures) ∙ none_of c.place_in.result c.in_default.not-Some))

pub returns-then-len-lt-FEW-clause-inserted : goal.returns-then-len-lt-FEW-clause-inserted
returns-then-len-lt-FEW-clause-inserted g c =
    rw c.in-Row.is
    (c.in_ok-push-in-Row.ensures.items
    ∙ put_last g.K.PartialEq.eq c.args.key c.args.value c.in-Row.row.items
    (sym (rw c.as_slice.ensures.value at c.place_in.ensures) ∙ none_of c.place_in.result c.in_default.not-Some))

pub returns-then-len-lt-FEW-clause-sound : goal.returns-then-len-lt-FEW-clause-sound
returns-then-len-lt-FEW-clause-sound g c =
    let row = c.in-Row.row.items in
    let was = subst (IsSound g.K.PartialEq.eq) c.in-Row.is c.requires in
    let pushed : c.push.new.self.items ≡ row ++ (c.args.key, c.args.value) ∷ [] = c.in_ok-push-in-Row.ensures.items in
    let put : c.push.new.self.items ≡ insert_entry g.K.PartialEq.eq row c.args.key c.args.value =
    pushed
    ∙ put_last g.K.PartialEq.eq c.args.key c.args.value row
    (sym (rw c.as_slice.ensures.value at c.place_in.ensures) ∙ none_of c.place_in.result c.in_default.not-Some) in
    record {
      distinct = subst (HaveDistinctKeys g.K.PartialEq.eq) (sym put)
          (inserted_distinct g.K.PartialEq.eq g.met.K.Eq.laws c.args.key c.args.value row was.distinct);
      few = omega (arith, ap length pushed, length_push row (c.args.key, c.args.value), c.len.ensures, c.if-len-lt-FEW.true, c.in-Row.row.ok.0);
    }

pub returns-in_err-table-in-Row-clause-known : goal.returns-in_err-table-in-Row-clause-known
returns-in_err-table-in-Row-clause-known g c known =
    let test = g.K.PartialEq.eq c.args.key in
    absurd (not_known test c.in-Row.row.items
    (sym (rw c.as_slice.ensures.value at c.place_in.ensures) ∙ none_of c.place_in.result c.in_default.not-Some)
    (subst (λ pairs. IsSome (lookup test (pairs_of pairs))) c.in-Row.is known))

pub returns-in_ok-table-in-Row-clause-replaced : goal.returns-in_ok-table-in-Row-clause-replaced
returns-in_ok-table-in-Row-clause-replaced g c =
    rw c.in-Row.is
    (no_value (g.K.PartialEq.eq c.args.key) c.in-Row.row.items
    (sym (rw c.as_slice.ensures.value at c.place_in.ensures) ∙ none_of c.place_in.result c.in_default.not-Some))
