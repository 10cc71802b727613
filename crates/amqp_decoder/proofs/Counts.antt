-- What terms weigh, and what begins by a code.
use Rattle.std.proofs.Common.{◌≡◌, ◌≤◌, ◌<◌, min, ℕ, Bool, true, false, Option, Some, None, List, [], ◌∷◌, refl, sym, ap, ◌∙◌, subst, arith, Result, Ok, Err, IfOk, IfErr}
use Rattle.amqp_model.specs.Term.{Descriptor, Term, leaf, container, list, map, array, described, kept, barred}
use Rattle.amqp_model.specs.Constructors.{Format, fixed, variable, compound, unknown, format}
use Rattle.amqp_model.specs.Spelling.{IsKnown}
use Rattle.amqp_model.specs.Measures.{share, weight}
use Rattle.amqp_wire.specs.declared.error.Error.{Error}
use Rattle.amqp_wire.specs.declared.error.Error.TheVariants.{Limit}
use Rattle.amqp_wire.specs.Limits.{unlimited}
use Rattle.amqp_decoder.specs.State.{refused_at, State, Has, lower, counted, counted_by, counted_in, is_shared}
use Rattle.amqp_decoder.specs.Reading.{IsFirst}
use Rattle.amqp_decoder.specs.Primitives.{standing, SpellsAs}
use Rattle.amqp_decoder.proofs.Steps.{has_less}

known_counts : (F : Format) → IsKnown F → counted_by F ≡ 1
known_counts (fixed w f) h = refl
known_counts (variable w f) h = refl
known_counts (compound k w) h = refl
known_counts unknown h = absurd h

-- a known code counts
pub code_counts : (o : Option (List Descriptor × ℕ)) (c : ℕ) (own : List ℕ) → IsFirst o c own → IsKnown (format c) → counted_in o c ≡ 1
code_counts None c own first h = known_counts (format c) h
code_counts (Some ([], k)) c own first h = known_counts (format c) h
code_counts (Some (d ∷ ds, k)) c own first h = absurd (subst (λ n. IsKnown (format n)) first.1 h)

-- a weight that is counted up to the number that sets no limit passes a limit exactly if the whole does
pub capped_fits : (q : Option ℕ) (most n m : ℕ) → q ≡ Some most → most < unlimited → m ≡ min n unlimited → Has q m → Has q n × (m ≡ n)
capped_fits q most n m is less e h =
    let fits : m ≤ most = subst (λ o. Has o m) is h in
    (subst (λ o. Has o n) (sym is) (omega (arith, fits, less, e)), omega (arith, fits, less, e))

pub capped_passes : (q : Option ℕ) (n m : ℕ) → m ≡ min n unlimited → (Has q m → ⊥) → Has q n → ⊥
capped_passes q n m e full h = full (has_less q m n (omega (arith, e)) h)

pub capped_ok : {A E : Type 0} (r : Result A E) (st new : State) (most n m : ℕ) → st.quota ≡ Some most → most < unlimited
    → m ≡ min n unlimited → IfOk r (λ _. Has st.quota m × (new ≡ record st { quota = lower st.quota m }))
    → IfOk r (λ _. Has st.quota n × (new ≡ record st { quota = lower st.quota n }))
capped_ok (Ok v) st new most n m is less e (h, k) =
    let (fits, same) = capped_fits st.quota most n m is less e h in
    (fits, k ∙ ap (λ z. record st { quota = lower st.quota z }) same)
capped_ok (Err x) st new most n m is less e h = h

pub capped_err : {A : Type 0} (r : Result A Error) (st new : State) (n m : ℕ) → m ≡ min n unlimited
    → IfErr r (λ e. (Has st.quota m → ⊥) × (e ≡ Limit) × (new ≡ refused_at Limit new.source.fault st))
    → IfErr r (λ e. (Has st.quota n → ⊥) × (e ≡ Limit) × (new ≡ refused_at Limit new.source.fault st))
capped_err (Ok v) st new n m e h = h
capped_err (Err x) st new n m e (full, is, h) = (capped_passes st.quota n m e full, is, h)

-- where nothing is shared
pub unshared_counts : (o : Option (List Descriptor × ℕ)) (c : ℕ) → o ≡ None → counted_in o c ≡ counted c
unshared_counts o c none = ap (λ x. counted_in x c) none

pub unshared_weight : (o : Option (List Descriptor × ℕ)) (t : Term) → o ≡ None → weight t (is_shared o) ≡ weight t false
unshared_weight o t none = ap (λ x. weight t (is_shared x)) none

counted_most : (F : Format) → counted_by F ≤ 1
counted_most (fixed w f) = omega arith
counted_most (variable w f) = omega arith
counted_most (compound k w) = omega arith
counted_most unknown = omega arith

-- a term has a weight
some_weight : (t : Term) (s : Bool) → 1 ≤ weight t s
some_weight (leaf p) s = omega arith
some_weight (container k ts) s = omega arith
some_weight (described d t) false = some_weight t false
some_weight (described d t) true = omega (arith, some_weight t true)
some_weight (kept b) s = omega arith
some_weight (barred r) s = omega arith

-- where a value may begin, one may by any code
pub one_may_begin : (o : Option ℕ) (c : ℕ) → Has o 1 → Has o (counted c)
one_may_begin o c h = has_less o (counted c) 1 (counted_most (format c)) h

-- what begins by a term's first code weighs no more than the term
begins_least : (o : Option (List Descriptor × ℕ)) (t : Term) (s : List ℕ) (c : ℕ) → SpellsAs (standing o s) t
    → counted_in o c ≤ weight t (is_shared o)
begins_least None t s c h = omega (arith, counted_most (format c), some_weight t false)
begins_least (Some ([], k)) t s c h = omega (arith, counted_most (format c), some_weight t true)
begins_least (Some (m ∷ ds, k)) (described d t) s c h = omega (arith, ap share h.0)
begins_least (Some (m ∷ ds, k)) (leaf p) s c h = absurd h
begins_least (Some (m ∷ ds, k)) (container list ts) s c h = absurd h
begins_least (Some (m ∷ ds, k)) (container map ts) s c h = absurd h
begins_least (Some (m ∷ ds, k)) (container array ts) s c h = absurd h
begins_least (Some (m ∷ ds, k)) (kept b) s c h = absurd h
begins_least (Some (m ∷ ds, k)) (barred r) s c h = absurd h

-- where a term may begin, it may by its first code
pub may_begin : (q : Option ℕ) (o : Option (List Descriptor × ℕ)) (t : Term) (s : List ℕ) (c : ℕ) → SpellsAs (standing o s) t
    → Has q (weight t (is_shared o)) → Has q (counted_in o c)
may_begin q o t s c spelled h = has_less q (counted_in o c) (weight t (is_shared o)) (begins_least o t s c spelled) h
