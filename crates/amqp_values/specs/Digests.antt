-- A number that equal values share.
use Rattle.std.proofs.Common.{◌≡◌, ℕ, zero, suc, true, List, [], ◌∷◌, ◌++◌, ap}
use Rattle.std.specs.List.{fold}
use Rattle.std.specs.Hash as fed
use Rattle.std.specs.Hash.FoldHasher as folding
use Rattle.amqp_model.specs.Term.{Container, list, map, array, Term, Terms, leaf, container, described, kept, barred, none, more}
use Rattle.amqp_values.specs.declared.value.Value.{Value}
use Rattle.amqp_values.specs.Equality.{value_eq}
use Rattle.amqp_values.specs.laws.Equality.{values_decide}
use Rattle.amqp_values.specs.Labels.{Label, label_of}
use Rattle.amqp_values.specs.Values.{value_term}

-- What a hasher is fed of a term without the terms that it holds: its numbers and its bytes.
abbrev pub leaf_fed : Label → fed.HashWrites
leaf_fed l = fed.u64 l.number ++ fed.i64 l.integer ++ (l.bytes ∷ [])

abbrev pub leaves_fed : Terms → fed.HashWrites
leaves_fed none = []
leaves_fed (more t ts) = leaf_fed (label_of t) ++ leaves_fed ts

-- So many of the terms, or fewer.
abbrev pub first_terms : ℕ → Terms → Terms
first_terms zero ts = none
first_terms (suc n) none = none
first_terms (suc n) (more t ts) = more t (first_terms n ts)

-- Of a map 32 pairs are looked at, and of other containers 32 terms.
abbrev pub seen : Container → ℕ
seen map = 64
seen _ = 32

-- A term as far as it is looked at.
abbrev pub shallow_fed : Term → fed.HashWrites
shallow_fed (container k ts) = leaf_fed (label_of (container k ts)) ++ leaves_fed (first_terms (seen k) ts)
shallow_fed (described d t) = leaf_fed (label_of (described d t)) ++ leaf_fed (label_of t)
shallow_fed t = leaf_fed (label_of t)

abbrev pub digest : Term → ℕ
digest t = folding.finish (fold folding.write folding.initial (shallow_fed t))

abbrev pub value_digest : Value → ℕ
value_digest v = digest (value_term v)

pub digests_alike : (v w : Value) → value_eq v w ≡ true → value_digest v ≡ value_digest w
digests_alike v w e = ap digest ((values_decide v w).0 e)
