-- A term whose sizes fit, and in which every item of an array has bytes of its own.
use Rattle.std.specs.Prelude.{◌≡◌, ℕ, suc, max, Ok, ◌<◌, ◌+◌, ◌^◌, length}
use Rattle.amqp_model.specs.Term.{Primitive, null, Term, Terms, leaf, container, described, kept, barred, none, more, count}
use Rattle.amqp_model.specs.Spelling.{descriptor_value}
use Rattle.amqp_model.specs.Text.{Place, Alone, First, Later, next, first_place, texts}
use Rattle.amqp_encoder.specs.Filling.{sized}

abbrev pub IsAlone : Place → Type 0
IsAlone Alone = Unit {0}
IsAlone First = ⊥
IsAlone Later = ⊥

abbrev pub MayStand : Primitive → Place → Type 0
MayStand null place = IsAlone place
MayStand p place = Unit {0}

-- the size and the count fit in four bytes each
abbrev pub HasSize : ℕ → ℕ → Type 0
HasSize items n = (items + 4 < 2 ^ 32) × (n < 2 ^ 32)

abbrev mutual
  pub IsSound : Term → Place → Type 0
  IsSound (leaf p) place = (sized p ≡ Ok (tt {0})) × MayStand p place
  IsSound (container k ts) place = HasSize (length (texts ts (first_place k))) (count ts) × AreSound ts (first_place k)
  IsSound (described d t) place = (sized (descriptor_value d) ≡ Ok (tt {0})) × IsSound t place
  IsSound (kept b) place = IsAlone place
  IsSound (barred r) place = ⊥

  pub AreSound : Terms → Place → Type 0
  AreSound none place = Unit {0}
  AreSound (more t ts) place = IsSound t place × AreSound ts (next place)

-- how many open containers and described values stand around the innermost value
abbrev mutual
  pub levels : Term → ℕ
  levels (container k ts) = suc (all_levels ts)
  levels (described d t) = suc (levels t)
  levels _ = 0

  pub all_levels : Terms → ℕ
  all_levels none = 0
  all_levels (more t ts) = max (levels t) (all_levels ts)
