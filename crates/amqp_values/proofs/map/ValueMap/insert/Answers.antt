use Rattle.std.proofs.Common.{sym, ap, ◌∙◌, subst, not, [], ◌∷◌, ◌++◌, if◌then◌else◌, IsSome}
use Rattle.amqp_values.specs.Equality.{value_eq}
use Rattle.amqp_values.specs.Maps.{HaveDistinctKeys}
use Rattle.amqp_values.specs.Values.{pairs_of}
use Rattle.amqp_values.proofs.DistinctKeys.{inserted_distinct}
use Rattle.amqp_values.proofs.Places.{value_at, no_value, set_at, put_last}
use Rattle.amqp_values.proofs.map.ValueMap.insert.Goals as goal

pub returns-in-Some-clause-replaced : goal.returns-in-Some-clause-replaced
returns-in-Some-clause-replaced c =
    rw c.replace.ensures.value
    (value_at (value_eq c.args.key) (pairs_of c.args.self.now) c.in-Some.index c.index_mut.result.now
    (sym (rw c.as_slice.ensures.value at c.place_of.ensures) ∙ c.in-Some.is) c.index_mut.ensures.value)

pub returns-in-Some-clause-inserted : goal.returns-in-Some-clause-inserted
returns-in-Some-clause-inserted c =
    rw c.replace.ensures.after
    (set_at value_eq c.args.key c.args.value (pairs_of c.args.self.now) c.in-Some.index c.index_mut.result.now
    (sym (rw c.as_slice.ensures.value at c.place_of.ensures) ∙ c.in-Some.is) c.index_mut.ensures.value)

pub returns-else-is_err-clause-replaced : goal.returns-else-is_err-clause-replaced
returns-else-is_err-clause-replaced c =
    no_value (value_eq c.args.key) (pairs_of c.args.self.now) (sym (rw c.as_slice.ensures.value at c.place_of.ensures) ∙ c.in-None.is)

pub returns-else-is_err-clause-inserted : goal.returns-else-is_err-clause-inserted
returns-else-is_err-clause-inserted c =
    let ps = pairs_of c.args.self.now in
    c.push.ensures.items
    ∙ ap (λ b. if b then ps ++ (c.args.key, c.args.value) ∷ [] else ps) (c.is_err.ensures.negation ∙ ap not c.if-is_err.false)
    ∙ put_last value_eq c.args.key c.args.value ps (sym (rw c.as_slice.ensures.value at c.place_of.ensures) ∙ c.in-None.is)

pub returns-then-is_err-clause-known : goal.returns-then-is_err-clause-known
returns-then-is_err-clause-known c h =
    subst IsSome (sym (no_value (value_eq c.args.key) (pairs_of c.args.self.now)
    (sym (rw c.as_slice.ensures.value at c.place_of.ensures) ∙ c.in-None.is))) h

pub returns-in-Some-clause-distinct : goal.returns-in-Some-clause-distinct
returns-in-Some-clause-distinct c h =
    subst HaveDistinctKeys (sym (returns-in-Some-clause-inserted c))
    (inserted_distinct c.args.key c.args.value (pairs_of c.args.self.now) h)

pub returns-else-is_err-clause-distinct : goal.returns-else-is_err-clause-distinct
returns-else-is_err-clause-distinct c h =
    subst HaveDistinctKeys (sym (returns-else-is_err-clause-inserted c))
    (inserted_distinct c.args.key c.args.value (pairs_of c.args.self.now) h)

pub returns-then-is_err-clause-distinct : goal.returns-then-is_err-clause-distinct
returns-then-is_err-clause-distinct c h =
    let ps = pairs_of c.args.self.now in
    subst HaveDistinctKeys
    (sym (c.push.ensures.items
    ∙ ap (λ b. if b then ps ++ (c.args.key, c.args.value) ∷ [] else ps) (c.is_err.ensures.negation ∙ ap not c.if-is_err.true)))
    h
