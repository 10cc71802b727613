-- How a group of some kinds is read, by the code of the section that comes next.
use Rattle.std.proofs.Common.{inl, inr}
use Rattle.std.specs.Prelude.{◌≡◌, ◌⊎◌, ℕ, ◌+◌, Bool, true, false, ◌||◌, List, [], ◌∷◌, Option, Some, None}
use Rattle.amqp_model.specs.FieldRules.{SameOption}
use Rattle.amqp_decoder.specs.State.{State}
use Rattle.amqp_decoder.specs.Places.{Located}
use Rattle.amqp_codec.specs.Reading.{Reading}
use Rattle.amqp_messages.specs.Kinds.{Kinds, none, kind, ForEach, is_in, Group, Fields}

abbrev pub Readings : Kinds → Type 1
Readings ks = ForEach Reading ks

-- A group was read whose kind has this code.
abbrev pub Reads : (ks : Kinds) → Readings ks → ℕ → State → Group ks → State → Type 0
Reads none rs c st g b = ⊥
Reads (kind T codes ks) rs c st (inl g) b = (is_in codes c ≡ true) × rs.0.reads st g b
Reads (kind T codes ks) rs c st (inr g) b = Reads ks rs.1 c st g b

-- A fault of the kind that has this code.
abbrev pub KindFault : (ks : Kinds) → Readings ks → ℕ → State → Located → Type 0
KindFault none rs c st e = ⊥
KindFault (kind T codes ks) rs c st e = ((is_in codes c ≡ true) × rs.0.fault st e) ⊎ KindFault ks rs.1 c st e

-- The two differ at most in where they lie in memory.
abbrev pub SameGroup : (ks : Kinds) → Readings ks → Group ks → Group ks → Type 0
SameGroup none rs g h = ⊥
SameGroup (kind T codes ks) rs (inl g) (inl h) = rs.0.same g h
SameGroup (kind T codes ks) rs (inl g) (inr h) = ⊥
SameGroup (kind T codes ks) rs (inr g) (inl h) = ⊥
SameGroup (kind T codes ks) rs (inr g) (inr h) = SameGroup ks rs.1 g h

abbrev pub SameFields : (ks : Kinds) → Readings ks → Fields ks → Fields ks → Type 0
SameFields none rs m n = Unit {0}
SameFields (kind T codes ks) rs m n = SameOption rs.0.same m.0 n.0 × SameFields ks rs.1 m.1 n.1

-- The values in what may be absent, and in what there is of each kind.
abbrev pub count_in : {A : Type 0} → (A → ℕ) → Option A → ℕ
count_in count None = 0
count_in count (Some v) = count v

abbrev pub weight : (ks : Kinds) → Readings ks → Fields ks → ℕ
weight none rs m = 0
weight (kind T codes ks) rs m = count_in rs.0.count m.0 + weight ks rs.1 m.1

-- No code is of two kinds.
abbrev pub has : Kinds → ℕ → Bool
has none c = false
has (kind T codes ks) c = is_in codes c || has ks c

abbrev pub AreNotIn : Kinds → List ℕ → Type 0
AreNotIn ks [] = Unit {0}
AreNotIn ks (c ∷ cs) = (has ks c ≡ false) × AreNotIn ks cs

abbrev pub AreApart : Kinds → Type 0
AreApart none = Unit {0}
AreApart (kind T codes ks) = AreNotIn ks codes × AreApart ks
