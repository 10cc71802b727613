-- A measuring pass accepts exactly what the model does.
use Rattle.std.proofs.Common.{◌≡◌, ℕ, ◌≤◌, ◌<◌, List, [], ◌∷◌, length, refl, sym, ap, inl, inr, ◌⊎◌, arith, le_of_suc-le-suc, lt_of_not-le}
use Rattle.std.specs.Prelude.{Result, Ok, Err}
use Rattle.std.proofs.lemmas.List.{append-nil}
use Rattle.amqp_model.specs.Term.{Refusal, Term}
use Rattle.amqp_model.specs.Text.{Alone, text}
use Rattle.amqp_model.specs.Kept.{ExpandsTo}
use Rattle.amqp_model.specs.Refusals.{Refuses}
use Rattle.amqp_wire.specs.Refusals.{error_of}
use Rattle.amqp_wire.specs.declared.error.Error.{Error}
use Rattle.amqp_wire.specs.declared.error.Error.TheVariants.{Memory, TooLarge, LazyInArray}
use Rattle.amqp_encoder.specs.State.{Encoder}
use Rattle.amqp_encoder.specs.Measuring.{MAX}
use Rattle.amqp_encoder.specs.Tokens.{tokens}
use Rattle.amqp_encoder.specs.Writes.{Writes}
use Rattle.amqp_encoder.specs.Passes.{row_text, row_tokens, AreValues, AreRefused, BeginsMeasuring}
use Rattle.amqp_encoder.specs.Refused.{KnowDepths, AllRead, HasCause, TermHasCause}
use Rattle.amqp_encoder.proofs.Rows.{measured}
use Rattle.amqp_encoder.proofs.Refused.{any_first, one_text, refused, has_cause, term_has_cause, uncounted}

fits_machine : (u : Term) → (MAX < length (row_text (u ∷ [])) → ⊥) → length (text u Alone) ≤ MAX
fits_machine u h = le_of_suc-le-suc (lt_of_not-le (λ l. h (omega (arith, ap length (one_text u)))))

no_cause : (u : Term) → ((r : Refusal) → Refuses r u → ⊥) → length (text u Alone) ≤ MAX → (e : Error) → TermHasCause u e → ⊥
no_cause u f l e (inl n) = f n.0 n.2
no_cause u f l e (inr n) = let m : MAX < length (text u Alone) = n.1 in omega arith

module _ (deep : List ℕ → ℕ) where
  one_row : (u : Term) → tokens deep u ≡ row_tokens deep (u ∷ [])
  one_row u = sym (append-nil (tokens deep u))

  not_caused : (us : List Term) → KnowDepths deep us → ((e : Error) → AreRefused deep us e → ⊥) → (e : Error) → HasCause us e → ⊥
  not_caused us x h e (inl n) = elim (refused deep us n.0 x n.2) [ inl w ↦ h (error_of n.0) w | inr w ↦ h LazyInArray w.1 ]
  not_caused us x h e (inr w) = h e (inr (inr (w.0, uncounted us w.1)))

  pub row_accepted : (us : List Term) (old new : Encoder) → KnowDepths deep us → AreValues us → BeginsMeasuring old
      → Writes old (row_tokens deep us) (Ok tt) new → (e : Error) → HasCause us e → ⊥
  row_accepted us old new x v i w = let found = measured deep us old (Ok tt) new v i w in not_caused us x (found.1.unrefused)

  pub row_refused : (us ts : List Term) (old new : Encoder) (e : Error) → KnowDepths deep us → AreValues us → AllRead us ts
      → BeginsMeasuring old → Writes old (row_tokens deep us) (Err e) new → (e ≡ Memory) ⊎ HasCause us e
  row_refused us ts old new e x v h i w =
      elim (measured deep us old (Err e) new v i w) [ inl m ↦ inl m.0 | inr r ↦ inr (has_cause deep us ts e x v h r) ]

  pub row_exactly : (us ts : List Term) (old new : Encoder) (r : Result (Unit {0}) Error) → KnowDepths deep us → AreValues us
      → AllRead us ts → BeginsMeasuring old → Writes old (row_tokens deep us) r new
      → ((e : Error) → HasCause us e → ⊥) → (r ≡ Ok tt) ⊎ (r ≡ Err Memory)
  row_exactly us ts old new (Ok y) x v h i w f = inl refl
  row_exactly us ts old new (Err e) x v h i w f =
      elim (row_refused us ts old new e x v h i w) [ inl m ↦ inr (ap Err m) | inr c ↦ absurd (f e c) ]

  pub term_accepted : (u : Term) (old new : Encoder) → KnowDepths deep (u ∷ []) → AreValues (u ∷ []) → BeginsMeasuring old
      → Writes old (tokens deep u) (Ok tt) new → ((r : Refusal) → Refuses r u → ⊥) × (length (text u Alone) ≤ MAX)
  term_accepted u old new x v i w =
      let free = row_accepted (u ∷ []) old new x v i (rw (one_row u) at w) in
      (λ r h. free (error_of r) (inl (r, refl, any_first (Refuses r) u [] h)), fits_machine u (λ l. free TooLarge (inr (refl, inl l))))

  pub term_refused : (u t : Term) (old new : Encoder) (e : Error) → KnowDepths deep (u ∷ []) → AreValues (u ∷ []) → ExpandsTo u t
      → BeginsMeasuring old → Writes old (tokens deep u) (Err e) new → (e ≡ Memory) ⊎ TermHasCause u e
  term_refused u t old new e x v h i w =
      elim (measured deep (u ∷ []) old (Err e) new v i (rw (one_row u) at w)) [
        | inl m ↦ inl m.0
        | inr r ↦ inr (term_has_cause deep u t e x v h r)
      ]

  pub term_exactly : (u t : Term) (old new : Encoder) (r : Result (Unit {0}) Error) → KnowDepths deep (u ∷ []) → AreValues (u ∷ [])
      → ExpandsTo u t → BeginsMeasuring old → Writes old (tokens deep u) r new
      → ((r : Refusal) → Refuses r u → ⊥) → length (text u Alone) ≤ MAX → (r ≡ Ok tt) ⊎ (r ≡ Err Memory)
  term_exactly u t old new (Ok y) x v h i w f l = inl refl
  term_exactly u t old new (Err e) x v h i w f l = elim (term_refused u t old new e x v h i w) [
    | inl m ↦ inr (ap Err m)
    | inr c ↦ absurd (no_cause u f l e c)
  ]
