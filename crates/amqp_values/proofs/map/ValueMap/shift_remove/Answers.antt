use Rattle.std.proofs.Common.{sym, subst, ◌∙◌}
use Rattle.amqp_values.specs.Equality.{value_eq}
use Rattle.amqp_values.specs.Maps.{HaveDistinctKeys}
use Rattle.amqp_values.specs.Values.{pairs_of}
use Rattle.amqp_values.proofs.DistinctKeys.{removed_distinct}
use Rattle.amqp_values.proofs.Places.{value_at, no_value, removed_at, nothing_removed}
use Rattle.amqp_values.proofs.map.ValueMap.shift_remove.Goals as goal

pub returns-in_err-index-clause-value : goal.returns-in_err-index-clause-value
returns-in_err-index-clause-value c =
    c.from_residual.ensures
    ∙ no_value (value_eq c.args.key.now) (pairs_of c.args.self.now)
    (sym (rw c.as_slice.ensures.value at c.place_of.ensures) ∙ c.in_err-index.was)

pub returns-in_err-index-clause-removed : goal.returns-in_err-index-clause-removed
returns-in_err-index-clause-removed c =
    nothing_removed (value_eq c.args.key.now) (pairs_of c.args.self.now)
    (sym (rw c.as_slice.ensures.value at c.place_of.ensures) ∙ c.in_err-index.was)

pub returns-clause-value : goal.returns-clause-value
returns-clause-value c =
    value_at (value_eq c.args.key.now) (pairs_of c.args.self.now) c.in_ok-index.index c.remove-value.result
    (sym (rw c.as_slice.ensures.value at c.place_of.ensures) ∙ c.in_ok-index.was) c.remove-value.ensures.value

pub returns-clause-removed : goal.returns-clause-removed
returns-clause-removed c =
    c.remove-value.ensures.items
    ∙ removed_at (value_eq c.args.key.now) (pairs_of c.args.self.now) c.in_ok-index.index
    (sym (rw c.as_slice.ensures.value at c.place_of.ensures) ∙ c.in_ok-index.was)

pub returns-clause-distinct : goal.returns-clause-distinct
returns-clause-distinct c h =
    subst HaveDistinctKeys (sym (returns-clause-removed c))
    (removed_distinct (value_eq c.args.key.now) (pairs_of c.args.self.now) h)
