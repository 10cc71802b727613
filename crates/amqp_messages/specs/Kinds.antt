-- The kinds of groups that a message is made of, as one list in the standard's order (Part 3, section 3.2).
use Rattle.std.proofs.Common.{inl, inr}
use Rattle.std.specs.Prelude.{◌≡◌, ◌⊎◌, ℕ, suc, ◌<◌, ◌≤◌, Bool, true, false, ◌||◌, eqb, cond, List, [], ◌∷◌, ◌++◌, length, Option, Some, None}
use Rattle.amqp_lookahead.specs.Sections.{IsSectionAhead}
use Rattle.amqp_batches.specs.Spellings.{Spells, Are}

-- Kinds in their order: what a group of each is, and the codes of the sections that it may begin with.
pub data Kinds : Type 1 where
  none : Kinds
  kind : Type 0 → List ℕ → Kinds → Kinds

-- Something for each kind.
abbrev pub ForEach : (Type 0 → Type 1) → Kinds → Type 1
ForEach F none = Unit {1}
ForEach F (kind T codes ks) = F T × ForEach F ks

abbrev pub size : Kinds → ℕ
size none = 0
size (kind T codes ks) = suc (size ks)

-- The code is one of these.
abbrev pub is_in : List ℕ → ℕ → Bool
is_in [] c = false
is_in (d ∷ ds) c = eqb c d || is_in ds c

-- A section with one of these codes comes next.
pub record Comes (codes : List ℕ) (rest : List ℕ) : Type 0 where
  pub code : ℕ
  pub among : is_in codes code ≡ true
  pub ahead : IsSectionAhead rest code

-- A group of one of the kinds.
abbrev pub Group : Kinds → Type 0
Group none = ⊥
Group (kind T codes ks) = T ⊎ Group ks

-- It begins with a section of its kind, and these bytes are a group of that kind.
abbrev pub IsGroup : (ks : Kinds) → ForEach Spells ks → Spells (Group ks)
IsGroup none ss b g more = ⊥
IsGroup (kind T codes ks) ss b (inl g) more = Comes codes (b ++ more) × ss.0 b g more
IsGroup (kind T codes ks) ss b (inr g) more = IsGroup ks ss.1 b g more

-- What there is of each kind.
abbrev pub Fields : Kinds → Type 0
Fields none = Unit {0}
Fields (kind T codes ks) = Option T × Fields ks

abbrev pub nothing : (ks : Kinds) → Fields ks
nothing none = tt
nothing (kind T codes ks) = (None, nothing ks)

-- A group takes the place of an earlier one of its kind.
abbrev pub put : (ks : Kinds) → Group ks → Fields ks → Fields ks
put none g fs = fs
put (kind T codes ks) (inl g) fs = (Some g, fs.1)
put (kind T codes ks) (inr g) fs = (fs.0, put ks g fs.1)

abbrev pub put_all : (ks : Kinds) → List (Group ks) → Fields ks → Fields ks
put_all ks [] fs = fs
put_all ks (g ∷ gs) fs = put_all ks gs (put ks g fs)

-- How many kinds come after that of a group.
abbrev pub behind : (ks : Kinds) → Group ks → ℕ
behind none g = 0
behind (kind T codes ks) (inl g) = size ks
behind (kind T codes ks) (inr g) = behind ks g

-- How many come after the kind whose sections may have this code.
abbrev pub behind_code : Kinds → ℕ → ℕ
behind_code none c = 0
behind_code (kind T codes ks) c = cond (is_in codes c) (size ks) (behind_code ks c)

-- The groups are in the standard's order, each kind once at most, and behind the first fewer than n kinds come.
abbrev pub Fall : (ks : Kinds) → ℕ → List (Group ks) → Type 0
Fall ks n [] = Unit {0}
Fall ks n (g ∷ gs) = (behind ks g < n) × Fall ks (behind ks g) gs

-- At most seven groups, one after another. There are seven, or nothing follows them. The value is made of the last of each kind.
pub record IsInAnyOrder {V : Type 0} (ks : Kinds) (ss : ForEach Spells ks) (made : Fields ks → V → Type 0) (b : List ℕ) (v : V)
    (more : List ℕ) : Type 0 where
  pub groups : List (Group ks)
  pub are : Are (IsGroup ks ss) b groups more
  pub few : length groups ≤ 7
  pub ended : (length groups ≡ 7) ⊎ (more ≡ [])
  pub is : made (put_all ks groups (nothing ks)) v

-- Groups in the standard's order, each kind once at most, and nothing follows them.
pub record IsInOrder {V : Type 0} (ks : Kinds) (ss : ForEach Spells ks) (made : Fields ks → V → Type 0) (b : List ℕ) (v : V)
    (more : List ℕ) : Type 0 where
  pub groups : List (Group ks)
  pub are : Are (IsGroup ks ss) b groups more
  pub fall : Fall ks (size ks) groups
  pub ended : more ≡ []
  pub is : made (put_all ks groups (nothing ks)) v
