-- Values that terms mean one by one, as the items of a list or an array do.
use Rattle.std.specs.Prelude.{◌≡◌, ◌⊎◌, ℕ, ◌+◌, List, [], ◌∷◌, map, Bool, false}
use Rattle.amqp_model.specs.Term.{Container, list, map as map_kind, array, Descriptor, Term, Terms, none, more, leaf, container, described}
use Rattle.amqp_model.specs.Term.{kept, barred}
use Rattle.amqp_model.specs.Constructors.{format}
use Rattle.amqp_model.specs.Spelling.{HasWidthZero}
use Rattle.amqp_model.specs.Standing.{Standing, part, Parts}
use Rattle.amqp_model.specs.Items.{terms_of}
use Rattle.amqp_model.specs.FieldType.{Norm, unchanged, by_norm}
use Rattle.amqp_codec.specs.TermType.{Spells, StandsCanonically, IsUnrefused}

-- Each term, standing so, means the value.
abbrev pub EachMeans : {T : Type 0} → (Standing → Term → T → Type 0) → List Standing → Terms → List T → Type 0
EachMeans means [] none [] = Unit {0}
EachMeans means [] none (v ∷ vs) = ⊥
EachMeans means [] (more t ts) vs = ⊥
EachMeans means (s ∷ ss) none vs = ⊥
EachMeans means (s ∷ ss) (more t ts) [] = ⊥
EachMeans means (s ∷ ss) (more t ts) (v ∷ vs) = means s t v × EachMeans means ss ts vs

-- Of each standing and the term in its place.
abbrev pub EachStands : (Standing → Term → Type 0) → List Standing → Terms → Type 0
EachStands P [] none = Unit {0}
EachStands P [] (more t ts) = ⊥
EachStands P (s ∷ ss) none = ⊥
EachStands P (s ∷ ss) (more t ts) = P s t × EachStands P ss ts

-- Each term is spelled by what it stands as.
abbrev pub EachSpells : List Standing → Terms → Type 0
EachSpells = EachStands Spells

-- Nothing refuses the term, and it stands canonically.
abbrev pub IsCanonical : Standing → Term → Type 0
IsCanonical s t = IsUnrefused t × StandsCanonically s t

abbrev pub EachCanonical : List Standing → Terms → Type 0
EachCanonical = EachStands IsCanonical

abbrev pub IsAmong : Standing → List Standing → Type 0
IsAmong s [] = ⊥
IsAmong s (z ∷ zs) = (s ≡ z) ⊎ IsAmong s zs

-- The canonical terms of some values.
abbrev pub canons_of : {T : Type 0} → (T → Term) → List T → Terms
canons_of canon vs = terms_of (map canon vs)

abbrev pub count_all : {T : Type 0} → (T → ℕ) → List T → ℕ
count_all c [] = 0
count_all c (v ∷ vs) = c v + count_all c vs

-- Items are normalised one by one.
abbrev pub norm_items : {T : Type 0} → Norm T → Norm (List T)
norm_items unchanged = unchanged
norm_items (by_norm f) = by_norm (map f)

-- A list or an array.
abbrev pub IsListOrArray : Container → Type 0
IsListOrArray list = Unit {0}
IsListOrArray map_kind = ⊥
IsListOrArray array = Unit {0}

-- Each stands as data under this constructor.
abbrev pub AreParts : List Descriptor → ℕ → List Standing → Type 0
AreParts ds c [] = Unit {0}
AreParts ds c (s ∷ ss) = ((x : List ℕ) × (s ≡ part ds c x)) × AreParts ds c ss

-- Part 1, section 1.2.4: the items of an array share a constructor, which isn't of width zero.
abbrev pub Share : Container → List Standing → Type 0
Share array ss = (ds : List Descriptor) × (c : ℕ) × AreParts ds c ss × (HasWidthZero (format c) → ⊥)
Share _ ss = Unit {0}

-- The items of a list or an array mean the values, as they stand in it. A type that doesn't look at that takes them anyhow.
abbrev pub MeansItems : {T : Type 0} → Bool → (Standing → Term → T → Type 0) → Container → Standing → Term → List T → Type 0
MeansItems ignores_standing means k s (container j ts) vs =
    (j ≡ k) × (ss : List Standing) × (ignores_standing ≡ false → Parts s (container j ts) ss) × EachMeans means ss ts vs
MeansItems ignores_standing means k s (leaf p) vs = ⊥
MeansItems ignores_standing means k s (described d t) vs = ⊥
MeansItems ignores_standing means k s (kept b) vs = ⊥
MeansItems ignores_standing means k s (barred r) vs = ⊥
