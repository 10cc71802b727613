use Rattle.std.proofs.Common.{◌≡◌, length, sym, ap, subst, ◌∙◌, arith}
use Rattle.std.specs.Map.{remove_entry}
use Rattle.amqp_maps.specs.Kept.{IsSound}
use Rattle.amqp_maps.specs.Pairs.{HaveDistinctKeys}
use Rattle.amqp_maps.proofs.KeysApart.{removed_distinct, fewer_removed}
use Rattle.amqp_maps.proofs.Places.{value_at, no_value, removed_at, nothing_removed}
use Rattle.amqp_maps.proofs.pairs.Pairs.shift_remove.Goals as goal

pub returns-in_err-place-in-Row-clause-value : goal.returns-in_err-place-in-Row-clause-value
returns-in_err-place-in-Row-clause-value g c =
    rw c.in-Row.is
    (c.from_residual.ensures
    ∙ no_value (g.K.PartialEq.eq c.args.key.now) c.in-Row.row.items
    (sym (rw c.as_slice.ensures.value at c.place_in.ensures) ∙ c.in_err-place-in-Row.was))

pub returns-in_err-place-in-Row-clause-removed : goal.returns-in_err-place-in-Row-clause-removed
returns-in_err-place-in-Row-clause-removed g c =
    rw c.in-Row.is
    (nothing_removed (g.K.PartialEq.eq c.args.key.now) c.in-Row.row.items
    (sym (rw c.as_slice.ensures.value at c.place_in.ensures) ∙ c.in_err-place-in-Row.was))

pub returns-in_ok-place-in-Row-clause-value : goal.returns-in_ok-place-in-Row-clause-value
returns-in_ok-place-in-Row-clause-value g c =
    rw c.in-Row.is
    (value_at (g.K.PartialEq.eq c.args.key.now) c.in-Row.row.items c.in_ok-place-in-Row.place c.remove-value.result
    (sym (rw c.as_slice.ensures.value at c.place_in.ensures) ∙ c.in_ok-place-in-Row.was) c.remove-value.ensures.value)

pub returns-in_ok-place-in-Row-clause-removed : goal.returns-in_ok-place-in-Row-clause-removed
returns-in_ok-place-in-Row-clause-removed g c =
    rw c.in-Row.is
    (c.remove-value.ensures.items
    ∙ removed_at (g.K.PartialEq.eq c.args.key.now) c.in-Row.row.items c.in_ok-place-in-Row.place
    (sym (rw c.as_slice.ensures.value at c.place_in.ensures) ∙ c.in_ok-place-in-Row.was))

pub returns-in_ok-place-in-Row-clause-sound : goal.returns-in_ok-place-in-Row-clause-sound
returns-in_ok-place-in-Row-clause-sound g c sound =
    let test = g.K.PartialEq.eq c.args.key.now in
    let row = c.in-Row.row.items in
    let was = subst (IsSound g.K.PartialEq.eq) c.in-Row.is sound in
    let few = was.few in
    let removed : c.remove-value.new.self.items ≡ remove_entry test row =
    c.remove-value.ensures.items
    ∙ removed_at test row c.in_ok-place-in-Row.place
    (sym (rw c.as_slice.ensures.value at c.place_in.ensures) ∙ c.in_ok-place-in-Row.was) in
    record {
      distinct = subst (HaveDistinctKeys g.K.PartialEq.eq) (sym removed) (removed_distinct g.K.PartialEq.eq test row was.distinct);
      few = omega (arith, ap length removed, fewer_removed test row, few);
    }
