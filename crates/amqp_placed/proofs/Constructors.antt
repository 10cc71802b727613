-- The level of what stands under the constructor that an array's items share (Part 1, section 1.2.4).
use Rattle.std.proofs.Common.{◌≡◌, ℕ, suc, arith, leb, ◌⊎◌, inl, inr, false, cond, eqb, ◌||◌, List, [], ◌∷◌, length, ap}
use Rattle.std.proofs.lemmas.Bool.{lt-ltb}
use Rattle.amqp_model.specs.Term.{Descriptor}
use Rattle.amqp_model.specs.Constructors.{Format, fixed, variable, compound, unknown, format}
use Rattle.amqp_model.specs.Spelling.{IsKnown}
use Rattle.amqp_lengths.specs.Pieces.{IsPrimitive}
use Rattle.amqp_lengths.specs.Stands.{level_of}
use Rattle.amqp_lengths.proofs.Codes.{container_at}
use Rattle.amqp_decoder.specs.Arrays.{IsFlat}

-- An array's items are flat, or a level below it.
pub flat_or_level : (ds : List Descriptor) (c : ℕ) → IsKnown (format c) → IsFlat ds (format c) ⊎ (level_of (length ds) c ≡ 1)
flat_or_level (e ∷ ds) c known =
    inr (ap (λ t. cond (t || (eqb c 0x45 || leb 0xc0 c)) 1 0) (lt-ltb 0 (suc (length ds)) (omega arith)))
flat_or_level [] c known = elim (container_at c known) [
  | inl (plain, other) ↦ inl (flat (format c) plain)
  | inr (kind, w, is, held) ↦ inr (ap (λ t. cond (false || t) 1 0) held)
]
  where
    flat : (F : Format) → IsPrimitive F → IsFlat [] F
    flat (fixed w v) h = tt
    flat (variable w v) h = tt
    flat (compound kind w) h = absurd h
    flat unknown h = absurd h
