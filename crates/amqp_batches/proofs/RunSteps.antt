-- How a run is read, section by section.
use Rattle.std.proofs.Common.{◌≡◌, ℕ, Bool, true, false, List, [], ◌∷◌, ◌++◌, Option, Some, None, unwrap_or, eqb, eq-eqb, refl, sym, ap, ◌∙◌, subst, inl, inr}
use Rattle.std.proofs.lemmas.Bool.{eqb-true}
use Rattle.std.specs.Option.{option_eq}
use Rattle.amqp_wire.specs.declared.error.Error.{Error}
use Rattle.amqp_wire.specs.declared.error.Error.TheVariants.{Memory}
use Rattle.amqp_lookahead.specs.Sections.{IsSectionAhead}
use Rattle.amqp_decoder.specs.State.{State}
use Rattle.amqp_decoder.specs.Steps.{RefusesBy}
use Rattle.amqp_decoder.specs.Sections.{PeeksSection}
use Rattle.amqp_decoder.specs.Places.{Located, RefusesAt}
use Rattle.amqp_codec.specs.Reading.{Reading}
use Rattle.amqp_batches.specs.laws.State.{still_among, alike_stays, alike_rest}
use Rattle.amqp_batches.specs.Walk.{IsAtTop, IsNext, Walk, Walked, WalkFault}
use Rattle.amqp_batches.specs.Runs.{run_walk}
use Rattle.amqp_batches.proofs.WalkSteps.{SoFar, peeked_top, peeked_alike, none_so_far, step_made, step_seen, finished, step_refused, ran_out}

module _ {T : Type 0} (c : ℕ) (r : Reading T) where
  abbrev w : Walk (List T) (List T)
  w = run_walk c r

  is_ahead : (mid : State) (o : Option ℕ) (here : State) → PeeksSection mid o here → o ≡ Some c → IsSectionAhead here.rest c
  is_ahead mid o here p i =
      let a = p.answer c in subst (λ b. IsSectionAhead b c) (sym (alike_rest mid here (peeked_alike mid o here p))) (a.0 i)

  not_ahead : (mid : State) (o : Option ℕ) (here : State) → PeeksSection mid o here → (o ≡ Some c → ⊥) → IsSectionAhead here.rest c → ⊥
  not_ahead mid o here p n h =
      let a = p.answer c in n (a.1 (subst (λ b. IsSectionAhead b c) (alike_rest mid here (peeked_alike mid o here p)) h))

  still_top : (mid : State) (o : Option ℕ) (here : State) → PeeksSection mid o here → IsAtTop here
  still_top mid o here p =
      let s = alike_stays mid here (peeked_alike mid o here p) in
      let t = peeked_top mid o here p in
      (s.error ∙ t.0, s.place ∙ t.1, s.saved ∙ t.2, still_among s ∙ t.3)

  -- it was looked at what comes next
  pub next_here : (mid : State) (o : Option ℕ) (here : State) → PeeksSection mid o here → o ≡ Some c → IsNext c here
  next_here mid o here p i = (still_top mid o here p, is_ahead mid o here p i)

  pub none_here : (mid : State) (o : Option ℕ) (here : State) → PeeksSection mid o here → (o ≡ Some c → ⊥)
      → IsAtTop here × (IsSectionAhead here.rest c → ⊥)
  none_here mid o here p n = (still_top mid o here p, not_ahead mid o here p n)

  -- one more section was read
  pub one_more : (st : State) (xs ys : List T) (v : T) (mid b : State) → ys ≡ xs ++ v ∷ [] → SoFar w st xs mid → IsNext c mid
      → r.reads mid v b → SoFar w st ys b
  one_more st xs ys v mid b g h n k =
      step_made w st xs ys mid mid b h refl (record { top = n.0; item = v; grows = g; ahead = n.1; read = k })

  pub one_more_seen : (st : State) (xs ys : List T) (v : T) (mid b : State) (o : Option ℕ) (next : State) → ys ≡ xs ++ v ∷ []
      → SoFar w st xs mid → IsNext c mid → r.reads mid v b → PeeksSection b o next → SoFar w st ys next
  one_more_seen st xs ys v mid b o next g h n k p =
      step_seen w st xs ys mid mid b next h refl (record { top = n.0; item = v; grows = g; ahead = n.1; read = k }) (peeked_alike b o next p)

  -- the next section was refused
  pub item_refused : (st : State) (xs : List T) (mid : State) (e : Error) (new : State) → SoFar w st xs mid → IsNext c mid
      → RefusesAt r.takes_memory r.reads r.fault mid e new → RefusesAt true (Walked w) (WalkFault w) st e new
  item_refused st xs mid e new h n q =
      step_refused w r.reads r.fault st xs mid mid e new h n.0 refl (λ _. refl) (λ x f. (n.1, f)) (λ none n x b l s. none s.item b s.read)
      (λ d. d n.1) q

  -- no memory for it
  pub item_not_kept : (st : State) (xs : List T) (v : T) (mid b : State) (e : Error) (new : State) → SoFar w st xs mid → IsNext c mid
      → r.reads mid v b → RefusesBy Memory b e new → RefusesAt true (Walked w) (WalkFault w) st e new
  item_not_kept st xs v mid b e new h n k refused = ran_out w st xs mid b e new refl h n.0 (r.stays mid v b k) refused

  -- the run ends
  pub run_ends : (st : State) (xs : List T) (mid : State) → SoFar w st xs mid → IsAtTop mid × (IsSectionAhead mid.rest c → ⊥)
      → Walked w st xs mid
  run_ends st xs mid h n = finished w st xs mid mid xs h n.0 refl n.1 refl

  -- no section comes next
  pub no_run : (st : State) (o : Option ℕ) (here : State) → PeeksSection st o here → (o ≡ Some c → ⊥) → Walked w st [] here
  no_run st o here p n =
      finished w st [] st here [] (none_so_far w st) (peeked_top st o here p) (peeked_alike st o here p) (not_ahead st o here p n) refl

-- what a comparison of codes tells
pub code_is : (o : Option ℕ) (k c : ℕ) → k ≡ c → true ≡ option_eq eqb o (Some k) → o ≡ Some c
code_is None k c e h = absurd (cc)
code_is (Some x) k c e h = ap Some (eqb-true x k (sym h) ∙ e)

pub code_is_not : (o : Option ℕ) (k c : ℕ) → k ≡ c → false ≡ option_eq eqb o (Some k) → o ≡ Some c → ⊥
code_is_not None k c e h i = let j = i in absurd (cc)
code_is_not (Some x) k c e h i =
    let j : x ≡ k = ap (λ o. unwrap_or o 0) i ∙ sym e in let f = h ∙ eq-eqb x k j in absurd (cc)

-- what is refused as a list of sections is refused as what holds it
pub refused_via : {A B : Type 0} {takes : Bool} (p : State → A → State → Type 0) (f : State → Located → Type 0) (to : B → A) (st : State)
    (e : Error) (new : State) → RefusesAt takes p f st e new → RefusesAt takes (λ st v b. p st (to v) b) f st e new
refused_via p f to st e new r = record {
  kept = r.kept;
  again = r.again;
  named = r.named;
  none = elim r.none [ inl x ↦ inl x | inr n ↦ inr (λ v b h. n (to v) b h) ];
}
