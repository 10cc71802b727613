-- Why an encoder doesn't measure a term.
use Rattle.std.specs.Prelude.{◌≡◌, ◌⊎◌, ℕ, suc, ◌%◌, ◌^◌, ◌<◌, ◌≤◌, max, List, [], length}
use Rattle.amqp_model.specs.Term.{Refusal, list, map, array, Term, Terms, leaf, container, described, kept, barred, none, more, count}
use Rattle.amqp_model.specs.Text.{Alone, texts}
use Rattle.amqp_model.specs.Refusals.{SomewhereIn, IsItem, IsRefused}
use Rattle.amqp_wire.specs.Refusals.{error_of}
use Rattle.amqp_wire.specs.declared.error.Error.{Error}
use Rattle.amqp_wire.specs.declared.error.Error.TheVariants.{OddCount, Depth, TooLarge}
use Rattle.amqp_encoder.specs.Measuring.{MAX}

-- Part 1, section 1.2.3: a count that doesn't fit in four bytes. An item that is no bytes is among them, since else
-- the size doesn't fit either; bytes that spell a term are no such item.
abbrev pub IsCrowded : Term → Type 0
IsCrowded (container k ts) = (2 ^ 32 ≤ count ts) × IsItem (kept []) ts
IsCrowded _ = ⊥

-- Part 1, section 1.6.23: a map with a key that has no value.
abbrev pub IsOddMap : Term → Type 0
IsOddMap (container map ts) = count ts % 2 ≡ 0 → ⊥
IsOddMap _ = ⊥

-- The reasons that lie in a term itself, its parts aside.
abbrev pub HasReason : Error → Term → Type 0
HasReason e t = ((r : Refusal) × (e ≡ error_of r) × IsRefused r t) ⊎ (((e ≡ TooLarge) × IsCrowded t) ⊎ ((e ≡ OddCount) × IsOddMap t))

-- How deep a term nests, where kept bytes nest so deep.
abbrev mutual
  pub nest_by : (List ℕ → ℕ) → Term → ℕ
  nest_by deep (leaf p) = 0
  nest_by deep (container list ts) = suc (nests_by deep ts)
  nest_by deep (container map ts) = suc (nests_by deep ts)
  nest_by deep (container array ts) = array_nest_by deep ts
  nest_by deep (described d t) = suc (nest_by deep t)
  nest_by deep (kept b) = deep b
  nest_by deep (barred r) = 0

  pub nests_by : (List ℕ → ℕ) → Terms → ℕ
  nests_by deep none = 0
  nests_by deep (more t ts) = max (nest_by deep t) (nests_by deep ts)

  pub array_nest_by : (List ℕ → ℕ) → Terms → ℕ
  array_nest_by deep none = 0
  array_nest_by deep (more (container k us) ts) = suc (max (nest_by deep (container k us)) (nests_by deep ts))
  array_nest_by deep (more (described d t) ts) = suc (max (nest_by deep (described d t)) (nests_by deep ts))
  array_nest_by deep (more _ ts) = array_nest_by deep ts

-- Why the terms in a row aren't written.
abbrev pub RowRefused : (List ℕ → ℕ) → Terms → Error → Type 0
RowRefused deep ts e =
    SomewhereIn (HasReason e) ts
    ⊎ (((e ≡ Depth) × (128 < nests_by deep ts)) ⊎ ((e ≡ TooLarge) × ((MAX < length (texts ts Alone)) ⊎ (MAX < count ts))))
