-- How what a type's traits say of writing is tied to its record.
use Rattle.std.proofs.Common.{◌≡◌, true, List, [], ◌∷◌, Option, Some, None, IfSome, refl}
use Rattle.amqp_model.specs.Term.{null, Term, Terms, leaf, container, described, kept, barred, none, more}
use Rattle.amqp_model.specs.Ranges.{Everywhere, EverywhereIn, IsValue}
use Rattle.amqp_model.specs.FieldRules.{option_canon}
use Rattle.amqp_model.specs.FieldType.{Norm, normal}
use Rattle.amqp_codec.specs.TermType.{TermType, KeepsNoBytes, KeepNoBytes}
use Rattle.amqp_codec.specs.OptionType.{option_of}
use Rattle.amqp_codec.specs.Wrappers.{via, Holds, held}
use Rattle.amqp_codec.specs.Written.{IsProper, AreProper, Writing, IsOneTerm}

-- The canonical terms and the values of the traits are those of the record.
pub record Agreement {T : Type 0} (u : TermType T) (w : Writing T) : Type 0 where
  pub canons_is : (v : T) → w.canons v ≡ u.canon v ∷ []
  pub value_to : (v : T) → w.is_value v → u.is_value v
  pub value_from : (v : T) → u.is_value v → w.is_value v

-- where no bytes are kept
mutual
  pub plain_proper : (t : Term) → KeepsNoBytes t → Everywhere IsValue t → Everywhere IsProper t
  plain_proper (leaf p) h i = i
  plain_proper (container k ts) h i = (i.0, plain_all_proper ts h i.1)
  plain_proper (described d t) h i = (i.0, plain_proper t h i.1)
  plain_proper (kept b) h i = absurd h
  plain_proper (barred r) h i = i

  plain_all_proper : (ts : Terms) → KeepNoBytes ts → EverywhereIn IsValue ts → EverywhereIn IsProper ts
  plain_all_proper none h i = i
  plain_all_proper (more t ts) h i = (plain_proper t h.0 i.0, plain_all_proper ts h.1 i.1)

-- the canonical term of a type that keeps no bytes
pub proper : {T : Type 0} (u : TermType T) → u.ignores_standing ≡ true → (v : T) → u.is_value v → AreProper (u.canon v ∷ [])
proper u ignores_standing v i = (plain_proper (u.canon v) (u.standing_ignored ignores_standing v).plain ((u.rewrites v).valued i), tt)

-- How a type that keeps no bytes is written, by its record.
abbrev pub writing_of : {T : Type 0} (u : TermType T) → u.ignores_standing ≡ true → Writing T
writing_of u ignores_standing = record { canons = λ v. u.canon v ∷ []; is_value = u.is_value; proper = proper u ignores_standing }

pub one_term : {T : Type 0} (u : TermType T) (ignores_standing : u.ignores_standing ≡ true) → IsOneTerm (writing_of u ignores_standing)
one_term u ignores_standing v = refl

pub agreement : {T : Type 0} (u : TermType T) (ignores_standing : u.ignores_standing ≡ true) → Agreement u (writing_of u ignores_standing)
agreement u ignores_standing = record { canons_is = λ v. refl; value_to = λ v i. i; value_from = λ v i. i }

-- Written as what stands in it is.
abbrev pub via_writing : {V T : Type 0} → (V → T) → Writing T → Writing V
via_writing to w = record { canons = λ v. w.canons (to v); is_value = λ v. w.is_value (to v); proper = λ v. w.proper (to v) }

abbrev pub option_canons : {T : Type 0} → (T → List Term) → Option T → List Term
option_canons canons None = leaf null ∷ []
option_canons canons (Some v) = canons v

pub option_proper : {T : Type 0} (w : Writing T) (v : Option T) → IfSome v w.is_value → AreProper (option_canons w.canons v)
option_proper w None i = (tt, tt)
option_proper w (Some v) i = w.proper v i

-- Null, or as the value.
abbrev pub option_writing : {T : Type 0} → Writing T → Writing (Option T)
option_writing w = record { canons = option_canons w.canons; is_value = λ v. IfSome v w.is_value; proper = option_proper w }

pub option_one : {T : Type 0} (w : Writing T) → IsOneTerm w → IsOneTerm (option_writing w)
option_one w one None = refl
option_one w one (Some v) = one v

some_as : {T : Type 0} (P Q : T → Type 0) → ((v : T) → P v → Q v) → (v : Option T) → IfSome v P → IfSome v Q
some_as P Q h None i = tt
some_as P Q h (Some v) i = h v i

option_canons_is : {T : Type 0} (canons : T → List Term) (canon : T → Term) → ((v : T) → canons v ≡ canon v ∷ [])
    → (v : Option T) → option_canons canons v ≡ option_canon canon v ∷ []
option_canons_is canons canon e None = refl
option_canons_is canons canon e (Some v) = e v

-- the ties of the generic types
pub option_agreement : {T : Type 0} {u : TermType T} {w : Writing T} → Agreement u w → Agreement (option_of u) (option_writing w)
option_agreement {u = u} {w = w} t = record {
  canons_is = option_canons_is w.canons u.canon t.canons_is;
  value_to = some_as w.is_value u.is_value t.value_to;
  value_from = some_as u.is_value w.is_value t.value_from;
}

pub via_agreement : {V T : Type 0} {u : TermType T} {w : Writing T} (to : V → T) (n : Norm V)
    (is : (v : V) → to (normal n v) ≡ normal u.norm (to v)) → Agreement u w → Agreement (via u to n is) (via_writing to w)
via_agreement to n is a =
    record { canons_is = λ v. a.canons_is (to v); value_to = λ v. a.value_to (to v); value_from = λ v. a.value_from (to v) }

pub held_agreement : {W T : Type 0} {u : TermType T} {w : Writing T} (h : Holds W T) → Agreement u w
    → Agreement (held h u) (via_writing h.get w)
held_agreement h a =
    record { canons_is = λ v. a.canons_is (h.get v); value_to = λ v. a.value_to (h.get v); value_from = λ v. a.value_from (h.get v) }
