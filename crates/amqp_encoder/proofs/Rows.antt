-- Whole passes over terms in a row.
use Rattle.std.proofs.Common.{◌≡◌, ℕ, ◌+◌, ◌<◌, ◌≤◌, List, [], ◌∷◌, ◌++◌, length, map, refl, ◌∙◌, ap, inl, inr, ◌⊎◌, arith, zero-add}
use Rattle.std.specs.Prelude.{Result, Ok, MatchResult, Some}
use Rattle.std.proofs.lemmas.List.{append-nil}
use Rattle.amqp_model.specs.Term.{list, map as map_, array, Term, Terms, leaf, container, described, kept, barred, none, more, count}
use Rattle.amqp_model.specs.Items.{terms_of}
use Rattle.amqp_model.specs.Text.{Alone, all_sizes}
use Rattle.amqp_model.specs.Refusals.{Somewhere, SomewhereIn, IsRefused}
use Rattle.amqp_wire.specs.Refusals.{error_of}
use Rattle.amqp_wire.specs.declared.error.Error.{Error}
use Rattle.amqp_wire.specs.declared.error.Error.TheVariants.{Memory}
use Rattle.amqp_encoder.specs.declared.size.Size.{Size}
use Rattle.amqp_encoder.specs.State.{Encoder}
use Rattle.amqp_encoder.specs.State.{Pass, Measuring, Filling, Stopped}
use Rattle.amqp_encoder.specs.Tokens.{Token, tokens, all_tokens}
use Rattle.amqp_encoder.specs.State.{Filled, at_start, to_fill}
use Rattle.amqp_encoder.specs.Sound.{levels, all_levels}
use Rattle.amqp_encoder.specs.Reasons.{HasReason, nest_by, nests_by, array_nest_by, RowRefused}
use Rattle.amqp_encoder.specs.Writes.{steps, outcome, Runs, Writes, Fills, bytes_in, loan_in, pass_of, bytes_of, loan_of, Found}
use Rattle.amqp_encoder.specs.Passes.{row_text, row_tokens, AreValues, HoldOthers, AreRefused, as_size, IsMeasured, BeginsMeasuring}
use Rattle.amqp_encoder.specs.Passes.{BeginsFilling}
use Rattle.amqp_encoder.proofs.ContainerTerms.{holds}
use Rattle.amqp_encoder.proofs.Joined.{filling_never, going_before, steps-append}
use Rattle.amqp_encoder.proofs.Filled.{fill_terms, filled, last}
use Rattle.amqp_encoder.proofs.Measured.{AcceptedAll, RefusedAll, some_inside, some_past, all_too_long, all_too_many, some_null, some_kept}
use Rattle.amqp_encoder.proofs.Measured.{some_other}
use Rattle.amqp_encoder.proofs.Lifted.{alls_at, any_past}
use Rattle.amqp_encoder.proofs.Measuring.{fr, mk, Goes, goes, stops, codes_after, all_descs}
use Rattle.amqp_encoder.proofs.MeasuredTerms.{measure_terms}

pub row_calls : (deep : List ℕ → ℕ) (ts : List Term) → row_tokens deep ts ≡ all_tokens deep (terms_of ts)
row_calls deep [] = refl
row_calls deep (t ∷ ts) = ap (λ r. tokens deep t ++ r) (row_calls deep ts)

steps_none : (s : Pass) → steps s [] ≡ s
unfolding steps
steps_none s = refl

-- the buffer of an encoder that fills
pub filled_bytes : (e : Encoder) (f : Filled) → pass_of e ≡ Filling f → bytes_of e ≡ f.out
filled_bytes e f h = ap (λ s. bytes_in s e.buffer) h

-- it goes on filling the same memory
abbrev pub IsSameLoan : Encoder → Encoder → Type 0
IsSameLoan old new = Fills (pass_of new) × (loan_of new ≡ loan_of old)

-- what holds somewhere for one reason holds for another
mutual
  pub somewhere_as : (P Q : Term → Type 0) → ((t : Term) → P t → Q t) → (t : Term) → Somewhere P t → Somewhere Q t
  somewhere_as P Q h (leaf p) s = h (leaf p) s
  somewhere_as P Q h (container k ts) (inl s) = inl (h (container k ts) s)
  somewhere_as P Q h (container k ts) (inr s) = inr (somewhere_in_as P Q h ts s)
  somewhere_as P Q h (described d t) (inl s) = inl (h (described d t) s)
  somewhere_as P Q h (described d t) (inr s) = inr (somewhere_as P Q h t s)
  somewhere_as P Q h (kept b) s = h (kept b) s
  somewhere_as P Q h (barred r) s = h (barred r) s

  pub somewhere_in_as : (P Q : Term → Type 0) → ((t : Term) → P t → Q t) → (ts : Terms) → SomewhereIn P ts → SomewhereIn Q ts
  somewhere_in_as P Q h none s = s
  somewhere_in_as P Q h (more t ts) (inl s) = inl (somewhere_as P Q h t s)
  somewhere_in_as P Q h (more t ts) (inr s) = inr (somewhere_in_as P Q h ts s)

module _ (deep : List ℕ → ℕ) where
  mutual
    levels_le : (t : Term) → levels t ≤ nest_by deep t + 1
    levels_le (leaf p) = omega arith
    levels_le (container list ts) = omega (arith, all_levels_le ts)
    levels_le (container map_ ts) = omega (arith, all_levels_le ts)
    levels_le (container array ts) = omega (arith, array_levels_le ts)
    levels_le (described d t) = omega (arith, levels_le t)
    levels_le (kept b) = omega arith
    levels_le (barred r) = omega arith

    all_levels_le : (ts : Terms) → all_levels ts ≤ nests_by deep ts + 1
    all_levels_le none = omega arith
    all_levels_le (more t ts) = omega (arith, levels_le t, all_levels_le ts)

    array_levels_le : (ts : Terms) → all_levels ts ≤ array_nest_by deep ts
    array_levels_le none = omega arith
    array_levels_le (more (leaf p) ts) = omega (arith, array_levels_le ts)
    array_levels_le (more (kept b) ts) = omega (arith, array_levels_le ts)
    array_levels_le (more (barred r) ts) = omega (arith, array_levels_le ts)
    array_levels_le (more (container k us) ts) = omega (arith, levels_le (container k us), all_levels_le ts)
    array_levels_le (more (described d t) ts) = omega (arith, levels_le (described d t), all_levels_le ts)

  row_refused : (ts : Terms) (e : Error) → RefusedAll deep ts Alone 0 0 0 0 0 [] e → RowRefused deep ts e
  row_refused ts e (some_inside r) = inl r
  row_refused ts e (some_past i h) = inr (inl (i, let f : 128 < 0 + nests_by deep ts = any_past deep Alone 0 ts h in omega arith))
  row_refused ts e (all_too_long i h) = inr (inr (i, inl (omega arith)))
  row_refused ts e (all_too_many i h m) = inr (inr (i, inr (omega arith)))
  row_refused ts e (some_null i a t j h) = absurd a
  row_refused ts e (some_kept i a t b j h) = absurd a
  row_refused ts e (some_other i h) = absurd h

  row_nested : (ts : Terms) → AcceptedAll deep ts Alone 0 0 0 0 0 [] → nests_by deep ts ≤ 128
  row_nested ts a = let f : 0 + nests_by deep ts ≤ 128 = alls_at deep 0 ts (omega arith) a.all_within in omega arith

  row_unrefused : (ts : Terms) → AcceptedAll deep ts Alone 0 0 0 0 0 [] → (e : Error) → RowRefused deep ts e → ⊥
  row_unrefused ts a e (inl r) = a.all_clean e r
  row_unrefused ts a e (inr (inl r)) = omega (arith, row_nested ts a, r.1)
  row_unrefused ts a e (inr (inr (i, inl r))) = let f = a.all_long in omega arith
  row_unrefused ts a e (inr (inr (i, inr r))) = let f = a.all_many in omega arith

  measured_is : (ts : List Term) → AcceptedAll deep (terms_of ts) Alone 0 0 0 0 0 []
      → IsMeasured deep ts (length (row_text ts)) (map as_size (all_sizes (terms_of ts)))
  measured_is ts a = record {
    exact = refl;
    kept = refl;
    fits = a.all_sound;
    levels = omega (arith, row_nested (terms_of ts) a, all_levels_le (terms_of ts));
    nested = row_nested (terms_of ts) a;
    free = (λ r s. a.all_clean (error_of r)
        (somewhere_in_as (IsRefused r) (HasReason (error_of r)) (λ t h. inl (r, refl, h)) (terms_of ts) s));
    unrefused = row_unrefused (terms_of ts) a;
  }

  abbrev row_end : List Term → Pass
  row_end ts =
      Measuring (mk (fr (Some list) (last (terms_of ts) Alone) (codes_after deep (terms_of ts) Alone 0) (0 + length (row_text ts))
      (0 + count (terms_of ts)) 0 0) [] (map as_size (all_sizes (terms_of ts))) (all_descs deep (terms_of ts) Alone []))

  measured_row : (ts : List Term) → AreValues ts
      → Goes (Measuring at_start) (row_tokens deep ts) (row_end ts) [] (AcceptedAll deep (terms_of ts) Alone 0 0 0 0 0 [])
      (RefusedAll deep (terms_of ts) Alone 0 0 0 0 0 [])
  measured_row ts v =
      rw (row_calls deep ts, ← append-nil (all_tokens deep (terms_of ts)))
      (measure_terms deep (terms_of ts) list Alone 0 0 0 0 0 [] [] [] [] tt (omega arith) (omega arith) v)

  -- what a measuring pass found: the terms' length and sizes, or why they are refused
  abbrev pub HasFound : List Term → Pass → Result (Unit {0}) Error → Type 0
  HasFound ts new r =
      MatchResult r (λ _. Found new (length (row_text ts)) (map as_size (all_sizes (terms_of ts)))
      × IsMeasured deep ts (length (row_text ts)) (map as_size (all_sizes (terms_of ts))))
      (λ e. ((e ≡ Memory) × HoldOthers ts) ⊎ AreRefused deep ts e)

  found_goes : (ts : List Term) (new : Pass) (r : Result (Unit {0}) Error) → AcceptedAll deep (terms_of ts) Alone 0 0 0 0 0 []
      → new ≡ row_end ts → r ≡ outcome new → HasFound ts new r
  found_goes ts new r a i h = rw (h, i) ((refl, zero-add (length (row_text ts)), refl), measured_is ts a)

  found_stops : (ts : List Term) (new : Pass) (r : Result (Unit {0}) Error) (e : Error) → AreRefused deep ts e → new ≡ Stopped e
      → r ≡ outcome new → HasFound ts new r
  found_stops ts new r e w i h = rw (h, i) (inr w)

  found_out : (ts : List Term) (new : Pass) (r : Result (Unit {0}) Error) → HoldOthers ts → new ≡ Stopped Memory
      → r ≡ outcome new → HasFound ts new r
  found_out ts new r x i h = rw (h, i) (inl (refl, x))

  found : (ts : List Term) (r : Result (Unit {0}) Error) (new : Pass) → AreValues ts
      → Runs (Measuring at_start) (row_tokens deep ts) r new → HasFound ts new r
  found ts r new v w =
      elim w.state [
        | inr o ↦ found_out ts new r (holds deep ts o.0) o.1 w.answer
        | inl q ↦ elim (measured_row ts v) [
          | goes a e ↦ found_goes ts new r a (q ∙ (e ∙ steps_none (row_end ts))) w.answer
          | stops x y e ↦ found_stops ts new r x (row_refused (terms_of ts) x y) (q ∙ e) w.answer
        ]
      ]

  pub measured : (ts : List Term) (old : Encoder) (r : Result (Unit {0}) Error) (new : Encoder) → AreValues ts → BeginsMeasuring old
      → Writes old (row_tokens deep ts) r new → HasFound ts (pass_of new) r
  measured ts old r new v i w = found ts r (pass_of new) v (rw i at w.runs)

  filled_row : (ts : List Term) (out : List ℕ) (limit loan len : ℕ) (sizes : List Size) → IsMeasured deep ts len sizes
      → length out + len ≤ limit →
      steps (Filling (to_fill sizes out limit loan)) (row_tokens deep ts)
      ≡ Filling (filled loan (last (terms_of ts) Alone) [] [] (out ++ row_text ts) limit)
  filled_row ts out limit loan len sizes m h =
      rw (m.kept, row_calls deep ts, ← append-nil (all_tokens deep (terms_of ts)), ← append-nil (map as_size (all_sizes (terms_of ts))))
      (fill_terms loan deep (terms_of ts) Alone [] [] out limit [] m.fits (omega (arith, m.levels)) (omega (arith, m.exact)) ∙ steps_none _)

  -- the state that a filling pass ends in
  ended : (ts : List Term) (out : List ℕ) (limit loan len : ℕ) (sizes : List Size) (r : Result (Unit {0}) Error) (new : Pass)
      → IsMeasured deep ts len sizes → length out + len ≤ limit → Runs (Filling (to_fill sizes out limit loan)) (row_tokens deep ts) r new
      → new ≡ Filling (filled loan (last (terms_of ts) Alone) [] [] (out ++ row_text ts) limit)
  ended ts out limit loan len sizes r new m h w =
      elim w.state [ inr o ↦ absurd (filling_never _ _ o.0) | inl q ↦ q ∙ filled_row ts out limit loan len sizes m h ]

  -- what a filling pass wrote
  abbrev pub HasFilled : List ℕ → Encoder → Result (Unit {0}) Error → Type 0
  HasFilled bytes new r = (r ≡ Ok tt) × (bytes_of new ≡ bytes)

  module _ (ts : List Term) (len : ℕ) (sizes : List Size) (out : List ℕ) (limit : ℕ) (old : Encoder) (r : Result (Unit {0}) Error)
      (new : Encoder) (m : IsMeasured deep ts len sizes) (h : length out + len ≤ limit) (i : BeginsFilling old sizes out limit)
      (w : Writes old (row_tokens deep ts) r new) where
    ending : pass_of new ≡ Filling (filled (loan_of old) (last (terms_of ts) Alone) [] [] (out ++ row_text ts) limit)
    ending = ended ts out limit (loan_of old) len sizes r (pass_of new) m h (rw i at w.runs)

    pub written : HasFilled (out ++ row_text ts) new r
    written = (w.runs.answer ∙ ap outcome ending, filled_bytes new _ ending)

    pub same_loan : IsSameLoan old new
    same_loan = (rw ending tt, ap loan_in ending)

  going_on : (ts : List Term) (out : List ℕ) (limit loan len : ℕ) (sizes : List Size) (first rest : List Token)
      (r : Result (Unit {0}) Error) (new : Pass) → IsMeasured deep ts len sizes → length out + len ≤ limit →
      first ++ rest ≡ row_tokens deep ts → Runs (Filling (to_fill sizes out limit loan)) first r new → r ≡ Ok tt
  going_on ts out limit loan len sizes first rest r new m h j w =
      elim w.state [
        | inr o ↦ absurd (filling_never _ _ o.0)
        | inl q ↦ (w.answer ∙ ap outcome q) ∙ going_before (steps (Filling (to_fill sizes out limit loan)) first) rest
            (rw (← steps-append (Filling (to_fill sizes out limit loan)) first rest, j, filled_row ts out limit loan len sizes m h) refl)
      ]

  -- each of its calls is answered Ok
  pub answered : (ts : List Term) (len : ℕ) (sizes : List Size) (out : List ℕ) (limit : ℕ) (old : Encoder) (first rest : List Token)
      (r : Result (Unit {0}) Error) (new : Encoder) → IsMeasured deep ts len sizes → length out + len ≤ limit
      → BeginsFilling old sizes out limit → first ++ rest ≡ row_tokens deep ts → Writes old first r new → r ≡ Ok tt
  answered ts len sizes out limit old first rest r new m h i j w =
      going_on ts out limit (loan_of old) len sizes first rest r (pass_of new) m h j (rw i at w.runs)
