-- What a type of terms is: which terms mean its values, which one is canonical, and the laws of both, in groups.
use Rattle.std.proofs.Common.{◌≡◌, ℕ, ◌≤◌, Bool, true, false, List, [], ◌∷◌, length, Some, None, refl, sym, ◌∙◌, subst}
use Rattle.amqp_model.specs.Term.{null, Refusal, too_large, Term, Terms, leaf, container, described, kept, barred, none, more, Descriptor}
use Rattle.amqp_model.specs.Spelling.{IsValid, descriptor_value, IsDataOf, IsSpelling}
use Rattle.amqp_model.specs.Standing.{Standing, whole, part}
use Rattle.amqp_model.specs.Text.{Alone, Later, text, form}
use Rattle.amqp_model.specs.Measures.{nest, nodes}
use Rattle.amqp_model.specs.Ranges.{Everywhere, IsValue, IsNoArray, IsBytes}
use Rattle.amqp_model.specs.Refusals.{Somewhere, IsRefused, Refuses, core}
use Rattle.amqp_model.specs.Kept.{ExpandsTo}
use Rattle.amqp_model.specs.Items.{is_null, IsFree}
use Rattle.amqp_model.specs.FieldType.{Norm, normal}
use Rattle.amqp_codec.specs.Faults.{Faults}
use Rattle.amqp_codec.specs.NullsAlike.{nulls_alike}

abbrev pub IsUnrefused : Term → Type 0
IsUnrefused u = (r : Refusal) → Refuses r u → ⊥

-- Nothing but its size refuses it.
abbrev pub IsRefusedForSize : Term → Type 0
IsRefusedForSize u = (r : Refusal) → Somewhere (IsRefused r) u → r ≡ too_large

-- Part 1, section 1.6.21: a descriptor that is a name is ASCII.
abbrev pub AreNamed : List Descriptor → Type 0
AreNamed [] = Unit {0}
AreNamed (d ∷ ds) = IsValid (descriptor_value d) × AreNamed ds

-- The term is spelled by what it stands as; the descriptors that it shares are ones that can be spelled.
abbrev pub Spells : Standing → Term → Type 0
Spells (whole b) t = IsSpelling b t
Spells (part ds c b) t = AreNamed ds × IsDataOf t ds c b

-- A canonical term stands as its text, or as its data in a canonical array.
abbrev pub StandsCanonically : Standing → Term → Type 0
StandsCanonically (whole b) u = b ≡ text u Alone
StandsCanonically (part ds c b) u = (form u ≡ Some (ds, c)) × (b ≡ text u Later)

-- It holds no other term.
abbrev pub IsLeaf : Term → Type 0
IsLeaf (container k ts) = ⊥
IsLeaf (described d t) = ⊥
IsLeaf _ = Unit {0}

abbrev pub IsKept : Term → Type 0
IsKept (kept b) = Unit {0}
IsKept _ = ⊥

-- no bytes are kept in the term
abbrev mutual
  pub KeepsNoBytes : Term → Type 0
  KeepsNoBytes (leaf p) = Unit {0}
  KeepsNoBytes (container k ts) = KeepNoBytes ts
  KeepsNoBytes (described d t) = KeepsNoBytes t
  KeepsNoBytes (kept b) = ⊥
  KeepsNoBytes (barred r) = Unit {0}

  pub KeepNoBytes : Terms → Type 0
  KeepNoBytes none = Unit {0}
  KeepNoBytes (more t ts) = KeepsNoBytes t × KeepNoBytes ts

abbrev pub IsPart : Standing → Type 0
IsPart (whole b) = ⊥
IsPart (part ds c b) = Unit {0}

-- What a type says of one value: that it is one of its own (its numbers are in their ranges, and so on), which terms mean
-- it, standing so, and which term is canonical.
pub record View : Type 1 where
  pub is_value : Type 0
  pub means : Standing → Term → Type 0
  pub canon : Term

abbrev pub view_of : {T : Type 0} → (T → Type 0) → (Standing → Term → T → Type 0) → (T → Term) → T → View
view_of is_value means canon v = record { is_value = is_value v; means = λ s t. means s t v; canon = canon v }

-- Of two values that are the same, what is said of the one is said of the other.
pub record Agrees (v w : View) : Type 0 where
  pub value : v.is_value → w.is_value
  pub means : (s : Standing) (t : Term) → v.means s t → w.means s t
  pub canon : v.canon ≡ w.canon

-- To be the same is an equivalence, under which a type says one thing.
pub record Sameness {T : Type 0} (same : T → T → Type 0) (at : T → View) : Type 0 where
  pub refl : (v : T) → same v v
  pub sym : (v w : T) → same v w → same w v
  pub trans : (v w x : T) → same v w → same w x → same v x
  pub agrees : (v w : T) → same v w → Agrees (at v) (at w)
  -- a term on one standing means one value at most
  pub one : (s : Standing) (t : Term) (v w : T) → (at v).means s t → (at w).means s t → same v w

-- What is written is read again, as n, which is v normalised.
pub record Rewrites (v n : View) : Type 0 where
  -- the canonical term is of its type
  pub valued : v.is_value → Everywhere IsValue v.canon
  -- it reads as a term, which means the normal value
  pub reads : v.is_value → IsFree v.canon → (t : Term) × ExpandsTo v.canon t
  pub means : (s : Standing) (t : Term) → v.is_value → IsUnrefused v.canon → StandsCanonically s v.canon → ExpandsTo v.canon t
      → n.means s t
  -- and is written as the same text
  pub canon : nulls_alike n.canon ≡ nulls_alike v.canon

-- How a term stands is not looked at: it means v on every standing, and no bytes are kept. n is v normalised.
pub record IgnoresStanding (v n : View) : Type 0 where
  pub plain : KeepsNoBytes v.canon
  pub means : (s z : Standing) (t : Term) → v.means s t → v.means z t
  pub canon_means : (s : Standing) → v.is_value → IsFree v.canon → n.means s v.canon

-- The term t, standing so, means a value whose canonical term is c, and in which so many values are.
pub record Meant (s : Standing) (t : Term) (is_value : Type 0) (c : Term) (count : ℕ) : Type 0 where
  pub value : is_value
  -- the value can be written, but where it is too large
  pub free : IsFree c
  pub writable : Spells s t → IsRefusedForSize c
  pub bare_data : IsPart s → IsKept (core c) → ⊥
  -- it is null exactly if its canonical term is, and has no form in an array where that is null under its descriptors
  pub null_alike : is_null c ≡ is_null t
  pub core_null : core c ≡ leaf null → form t ≡ None
  pub formless : form t ≡ None → form c ≡ None
  -- the value nests no deeper, is no container where the term is none, and counts no more
  pub nested : (u : Term) → ExpandsTo c u → nest u ≤ nest t
  pub leaf_alike : (u : Term) → ExpandsTo c u → IsLeaf t → IsLeaf u
  pub counted : count ≤ nodes t

-- If the bytes spell t and the canonical term c holds no array, its text is no longer than they are.
abbrev pub IsNoShorter : List ℕ → Term → Term → Type 0
IsNoShorter b t c = IsBytes b → Everywhere IsNoArray c → IsSpelling b t → length (text c Alone) ≤ length b

pub record TermType (T : Type 0) : Type 1 where
  -- a value of the type: its numbers are in their ranges, and so on
  pub is_value : T → Type 0
  -- the term, standing so, means the value
  pub means : Standing → Term → T → Type 0
  -- why none of its values is read
  pub faults : Faults
  -- the canonical term, in which a refusal stands if the value has none
  pub canon : T → Term
  pub norm : Norm T
  -- the two differ at most in where they lie in memory
  pub same : T → T → Type 0
  -- the values in it: primitives, containers, and nulls that stand as items
  pub count : T → ℕ
  -- no canonical term is null
  pub is_never_null : Bool
  -- it doesn't look at how a term stands
  pub ignores_standing : Bool
  -- reading it takes memory
  pub takes_memory : Bool
  -- no spelling of a value is shorter than its canonical text, where that holds no array
  pub is_least : Bool
  -- the laws
  pub sameness : Sameness same (view_of is_value means canon)
  pub rewrites : (v : T) → Rewrites (view_of is_value means canon v) (view_of is_value means canon (normal norm v))
  pub meant : (s : Standing) (t : Term) (v : T) → means s t v → Meant s t (is_value v) (canon v) (count v)
  -- what is meant is its own normal value, and to normalise once is enough
  pub own : (s : Standing) (t : Term) (v : T) → means s t v → same (normal norm v) v
  pub norm_norm : (v : T) → same (normal norm (normal norm v)) (normal norm v)
  -- it has one form for one form
  pub formed : (s z : Standing) (t u : Term) (v w : T) → means s t v → means z u w → form t ≡ form u → form (canon v) ≡ form (canon w)
  pub never_null : is_never_null ≡ true → (v : T) → is_null (canon v) ≡ false
  pub standing_ignored : ignores_standing ≡ true → (v : T)
      → IgnoresStanding (view_of is_value means canon v) (view_of is_value means canon (normal norm v))
  pub least : is_least ≡ true → (b : List ℕ) (t : Term) (v : T) → means (whole b) t v → IsNoShorter b t (canon v)

abbrev pub view_in : {T : Type 0} → TermType T → T → View
view_in u = view_of u.is_value u.means u.canon

-- where values are the same only if they are equal
pub equality : {T : Type 0} (at : T → View) → ((s : Standing) (t : Term) (v w : T) → (at v).means s t → (at w).means s t → v ≡ w)
    → Sameness (λ v w. v ≡ w) at
equality at one = record {
  refl = λ v. refl;
  sym = λ v w h. sym h;
  trans = λ v w x h k. h ∙ k;
  agrees = λ v w h. subst (λ x. Agrees (at v) (at x)) h (record { value = λ i. i; means = λ s t m. m; canon = refl });
  one = one;
}
