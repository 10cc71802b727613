-- Why a canonical term isn't written: what Part 1 forbids, and what this project refuses.
use Rattle.std.specs.Prelude.{◌≡◌, ℕ, ◌+◌, ◌<◌, ◌≤◌, ◌^◌, ◌⊎◌, List, length, Some, IsAscii}
use Rattle.amqp_model.specs.Term.{Primitive, null, binary, string, symbol, Refusal, depth, zero_width_items, non_ascii, mixed_array}
use Rattle.amqp_model.specs.Term.{too_large, lazy_in_array, array, Term, Terms, leaf, container, described, kept, barred, none, more, count}
use Rattle.amqp_model.specs.Term.{Descriptor}
use Rattle.amqp_model.specs.Spelling.{descriptor_value}
use Rattle.amqp_model.specs.Text.{form, texts, content_of, first_place}
use Rattle.amqp_model.specs.Measures.{nest}
use Rattle.amqp_model.specs.Kept.{ExpandsTo}

-- P holds of some term in a term.
abbrev mutual
  pub Somewhere : (Term → Type 0) → Term → Type 0
  Somewhere P (container k ts) = P (container k ts) ⊎ SomewhereIn P ts
  Somewhere P (described d t) = P (described d t) ⊎ Somewhere P t
  Somewhere P t = P t

  pub SomewhereIn : (Term → Type 0) → Terms → Type 0
  SomewhereIn P none = ⊥
  SomewhereIn P (more t ts) = Somewhere P t ⊎ SomewhereIn P ts

abbrev pub IsItem : Term → Terms → Type 0
IsItem t none = ⊥
IsItem t (more u us) = (t ≡ u) ⊎ IsItem t us

-- What stands under a term's descriptors.
abbrev pub core : Term → Term
core (described d t) = core t
core t = t

-- It has a constructor in an array: no null does, nor what is kept or barred.
abbrev pub HasForm : Term → Type 0
HasForm t = (f : List Descriptor × ℕ) × (form t ≡ Some f)

-- Part 1, section 1.2.4: the items of an array share one constructor, with its descriptors. Two terms can't share one where just one of
-- them is described, where neither is and their forms differ, or where their descriptors differ or else what stands under them can't.
-- A term that isn't described and has no form rules out none.
abbrev pub Differ : Term → Term → Type 0
Differ (described d t) (described e u) = d ≡ e → Differ t u
Differ (described d t) u = HasForm u
Differ t (described e u) = HasForm t
Differ t u = HasForm t × HasForm u × (form t ≡ form u → ⊥)

-- Part 1, section 1.2.4: an array with two items that can't share a constructor. That an item is refused for a reason of its own
-- (a null, kept bytes, what is barred) doesn't make it one.
abbrev pub HasMixedItems : Term → Type 0
HasMixedItems (container array ts) = (t : Term) × (u : Term) × IsItem t ts × IsItem u ts × Differ t u
HasMixedItems _ = ⊥

-- An array with a null, whose data is of width zero.
abbrev pub HasNullItem : Term → Type 0
HasNullItem (container array ts) = (t : Term) × IsItem t ts × (core t ≡ leaf null)
HasNullItem _ = ⊥

-- An array with an item that brings a constructor of its own.
abbrev pub HasKeptItem : Term → Type 0
HasKeptItem (container array ts) = (t : Term) × (b : List ℕ) × IsItem t ts × (core t ≡ kept b)
HasKeptItem _ = ⊥

abbrev pub IsNonAscii : Primitive → Type 0
IsNonAscii (symbol s) = IsAscii s → ⊥
IsNonAscii _ = ⊥

-- Part 1, section 1.6.21: a symbol or a descriptor's name that isn't ASCII.
abbrev pub HasNonAscii : Term → Type 0
HasNonAscii (leaf p) = IsNonAscii p
HasNonAscii (described d t) = IsNonAscii (descriptor_value d)
HasNonAscii _ = ⊥

abbrev pub IsLong : Primitive → Type 0
IsLong (binary s) = 2 ^ 32 ≤ length s
IsLong (string s) = 2 ^ 32 ≤ length s
IsLong (symbol s) = 2 ^ 32 ≤ length s
IsLong _ = ⊥

-- Part 1, sections 1.2.2 to 1.2.4: a size that doesn't fit in four bytes.
abbrev pub IsTooLarge : Term → Type 0
IsTooLarge (leaf p) = IsLong p
IsTooLarge (container k ts) = 2 ^ 32 ≤ 4 + length (content_of k (count ts) (texts ts (first_place k)))
IsTooLarge (described d t) = IsLong (descriptor_value d)
IsTooLarge _ = ⊥

-- What is wrong with a term itself, its parts aside.
abbrev pub HasFlaw : Refusal → Term → Type 0
HasFlaw mixed_array u = HasMixedItems u
HasFlaw zero_width_items u = HasNullItem u
HasFlaw lazy_in_array u = HasKeptItem u
HasFlaw non_ascii u = HasNonAscii u
HasFlaw too_large u = IsTooLarge u
HasFlaw _ u = ⊥

-- It has that flaw, or it is barred for that reason.
abbrev pub IsRefused : Refusal → Term → Type 0
IsRefused r u = (u ≡ barred r) ⊎ HasFlaw r u

-- It reads as a term that nests deeper than 128.
abbrev pub IsTooDeep : Term → Type 0
IsTooDeep u = (t : Term) × ExpandsTo u t × (128 < nest t)

-- Why a canonical term isn't written: some part is refused for that reason, or it nests too deep.
unfoldable pub Refuses : Refusal → Term → Type 0
Refuses r u = Somewhere (IsRefused r) u ⊎ ((r ≡ depth) × IsTooDeep u)
