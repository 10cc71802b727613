-- Batches: sections of one kind as one value, by the vector that holds them.
use Rattle.std.proofs.Common.{◌≡◌, ℕ, false, List, [], ◌∷◌, ◌++◌, length, map, All, Vec, Global, refl, sym, ap, ◌∙◌, subst}
use Rattle.std.specs.List.{AllZip, flat_map}
use Rattle.amqp_model.specs.FieldType.{Norm, normal, unchanged, by_norm}
use Rattle.amqp_lookahead.specs.Sections.{IsSectionAhead}
use Rattle.amqp_encoder.specs.Passes.{row_text}
use Rattle.amqp_codec.specs.TermType.{TermType}
use Rattle.amqp_codec.specs.TermReading.{reading_of}
use Rattle.amqp_codec.specs.Each.{norm_items}
use Rattle.amqp_codec.specs.VecType.{norm_vec, vec_normal}
use Rattle.amqp_codec.specs.Wrappers.{Holds, norm_held}
use Rattle.amqp_codec.specs.Written.{Writing}
use Rattle.amqp_codec.specs.Agreement.{Agreement}
use Rattle.amqp_codec.specs.Reading.{Reading, start, BeginsWith}
use Rattle.amqp_codec.specs.Rewriting.{Rewriting, rewrites}
use Rattle.amqp_batches.specs.declared.transparent_vec.TransparentVec.{TransparentVec}
use Rattle.amqp_batches.specs.Walk.{Walked}
use Rattle.amqp_batches.specs.WalkReading.{walk_reading, reading_via}
use Rattle.amqp_batches.specs.Runs.{run_walk}
use Rattle.amqp_batches.specs.Sections.{IsSection}
use Rattle.amqp_batches.specs.Bounds.{IsBoundByLimits}
use Rattle.amqp_batches.specs.laws.Bound.{term_bound, run_bound, begins_without_limits}
use Rattle.amqp_batches.specs.laws.Resuming.{IsRead}
use Rattle.amqp_batches.specs.laws.Row.{each_proper}
use Rattle.amqp_batches.specs.laws.RunRewriting.{run_again, run_was_read, all_same_canons, all_texts_again}
use Rattle.amqp_batches.specs.laws.RunRewriting.{all_own, all_values, all_large}

abbrev pub in_batch : {T : Type 0} → Holds (TransparentVec T) (Vec T Global)
in_batch = record { get = λ b. b.0; put = λ v b. record b { 0 = v }; is_put = λ v b. refl }

-- The sections in their order.
abbrev pub sections_in : {T : Type 0} → TransparentVec T → List T
sections_in b = b.0.items

-- Written section by section.
abbrev pub batch_writing : {T : Type 0} → Writing T → Writing (TransparentVec T)
batch_writing w = record {
  canons = λ b. flat_map w.canons (sections_in b);
  is_value = λ b. All w.is_value (sections_in b);
  proper = λ b. each_proper w (sections_in b);
}

-- Read as the longest run.
abbrev pub batch_reading : {T : Type 0} → ℕ → Reading T → Reading (TransparentVec T)
batch_reading c r = reading_via (walk_reading (run_walk c r)) sections_in

pub batch_bound : {T : Type 0} (c : ℕ) (r : Reading T) → IsBoundByLimits r → IsBoundByLimits (batch_reading c r)
batch_bound c r bound st v b = run_bound c r bound st (sections_in v) b

-- Each section is normalised.
abbrev pub batch_again : {T : Type 0} → TermType T → TransparentVec T → TransparentVec T
batch_again u = normal (norm_held in_batch (norm_vec u.norm))

normal_each : {T : Type 0} (n : Norm T) (vs : List T) → normal (norm_items n) vs ≡ map (normal n) vs
normal_each unchanged [] = refl
normal_each unchanged (v ∷ vs) = ap (λ ws. v ∷ ws) (normal_each unchanged vs)
normal_each (by_norm f) [] = refl
normal_each (by_norm f) (v ∷ vs) = ap (λ ws. f v ∷ ws) (normal_each (by_norm f) vs)

held_again : {T : Type 0} (n : Norm (Vec T Global)) (b : TransparentVec T) → (normal (norm_held in_batch n) b).0 ≡ normal n b.0
held_again unchanged b = refl
held_again (by_norm f) b = refl

pub again_each : {T : Type 0} (u : TermType T) (b : TransparentVec T)
    → sections_in (batch_again u b) ≡ map (normal u.norm) (sections_in b)
again_each u b = ap (λ v. v.items) (held_again (norm_vec u.norm) b) ∙ vec_normal u.norm b.0 ∙ normal_each u.norm b.0.items

module _ {T : Type 0} (c : ℕ) {u : TermType T} {w : Writing T} (s : IsSection c w) (a : Agreement u w) where
  abbrev r : Reading T
  r = reading_of u

  abbrev bound : IsBoundByLimits r
  bound = term_bound u

  was_read : (input : List ℕ) (b : TransparentVec T) (n : ℕ) → BeginsWith (batch_reading c r) input b n → All (IsRead r) (sections_in b)
  was_read input b n h = run_was_read c r bound w s (rewrites a) input (sections_in b) h.after h.read

  pub batch_rewrites : Rewriting (batch_reading c r) (batch_writing w).canons (batch_writing w).is_value (λ more. IsSectionAhead more c → ⊥)
      (batch_again u) (λ _. Unit {0}) (λ _. Unit {0}) false
  batch_rewrites = record {
    alone = λ h. (let e = ap length h.split in absurd (cc));
    canons_same = λ v x h. all_same_canons c r bound w s (rewrites a) (sections_in v) (sections_in x) h;
    reads_again = λ v more i _ f ends.
        (let k = run_again c r bound w s (rewrites a) (sections_in v) more i f ends in
        record {
          after = k.after;
          read = subst (λ vs. Walked (run_walk c r) (start (row_text (flat_map w.canons (sections_in v)) ++ more)) vs k.after)
              (sym (again_each u v)) k.read;
          left = k.left;
        });
    text_again = λ v i f.
        ap (λ vs. row_text (flat_map w.canons vs)) (again_each u v) ∙ all_texts_again c r bound w s (rewrites a) (sections_in v) i f;
    value = λ input v n h. all_values c r bound w s (rewrites a) (sections_in v) (was_read input v n h);
    own = λ input v n h _.
        subst (λ vs. AllZip r.same vs (sections_in v)) (sym (again_each u v))
        (all_own c r bound w s (rewrites a) (sections_in v) (was_read input v n h));
    large = λ input v n e h x. all_large c r bound w s (rewrites a) (sections_in v) e (was_read input v n h) x;
    bounded = begins_without_limits (batch_reading c r) (batch_bound c r bound);
    least = λ l. absurd (cc);
  }
