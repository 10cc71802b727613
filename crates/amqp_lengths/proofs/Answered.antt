-- What an answer says of the whole input.
use Rattle.std.proofs.Common.{◌≡◌, ℕ, ◌⊎◌, inl, inr, Result, Ok, Err, IfOk, IfErr, List, [], ◌∷◌, ◌++◌, take, drop, refl, sym, ap, ◌∙◌}
use Rattle.std.proofs.Common.{subst, append_assoc, append-nil}
use Rattle.std.proofs.lemmas.List.{take-append-drop}
use Rattle.amqp_wire.specs.declared.error.Error.{Error}
use Rattle.amqp_wire.specs.declared.error.Error.TheVariants.{Cut}
use Rattle.amqp_model.specs.Spelling.{IsSpelling}
use Rattle.amqp_model.proofs.Unique.{cut}
use Rattle.amqp_lengths.specs.Fronts.{IsFront, NoFront, Refuses}
use Rattle.amqp_lengths.specs.Lengths.{IsTerm, IsCutTerm}

pub none_there : (k : ℕ) (input : List ℕ) (r : Result ℕ Error) → IfErr r (λ e. Refuses (IsTerm k) input e)
    → IfErr r (λ e. NoFront (IsTerm k) input)
none_there k input (Ok n) h = tt
none_there k input (Err e) h = λ b after is t. h.none [] (λ c. refl) b after (append-nil input ∙ is) t

is_cut : (e : Error) → (e ≡ Cut) ⊎ (e ≡ Cut → ⊥)
is_cut Cut = inl refl
is_cut e = inr (λ h. cc)

behind : (n : ℕ) (input more : List ℕ) → input ++ more ≡ take n input ++ (drop n input ++ more)
behind n input more = ap (λ x. x ++ more) (sym (take-append-drop n input)) ∙ append_assoc (take n input) (drop n input) more

no_bytes : (a b : List ℕ) → a ++ b ≡ [] → b ≡ []
no_bytes [] b e = e
no_bytes (x ∷ a) b e = cc

pub cut_short : (k : ℕ) (input : List ℕ) (r : Result ℕ Error) → IfOk r (λ n. IsFront (IsTerm k) input n)
    → IfErr r (λ e. Refuses (IsTerm k) input e) → IsCutTerm k input → r ≡ Err Cut
cut_short k input (Ok n) h g (more, t, some, s, deep) =
    let (u, q, low) = h.spelled in
    absurd (some (no_bytes (drop n input) more
    (cut (take n input) (drop n input ++ more) t u (subst (λ b. IsSpelling b t) (behind n input more) s) q)))
cut_short k input (Err e) h g (more, t, some, s, deep) = elim (is_cut e) [
  | inl c ↦ ap Err c
  | inr c ↦ absurd (g.none more (λ x. absurd (c x)) (input ++ more) [] (sym (append-nil (input ++ more))) (t, s, deep))
]
