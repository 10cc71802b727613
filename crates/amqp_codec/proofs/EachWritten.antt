-- Values are written one after another.
use Rattle.std.proofs.Common.{◌≡◌, ℕ, ◌+◌, ◌<◌, ◌≤◌, List, [], ◌∷◌, ◌++◌, length, take, drop, get_or, refl, sym, ap, ◌∙◌, subst}
use Rattle.std.specs.Prelude.{Result, Ok, Err}
use Rattle.std.specs.List.{flat_map}
use Rattle.std.proofs.lemmas.List.{take_more, take_all, take-append-drop, flat_map_more}
use Rattle.std.proofs.lemmas.Grind.{flat_map-append}
use Rattle.amqp_model.specs.Term.{Term}
use Rattle.amqp_wire.specs.declared.error.Error.{Error}
use Rattle.amqp_encoder.specs.State.{Encoder}
use Rattle.amqp_codec.specs.Written.{WritesTerms}
use Rattle.amqp_codec.proofs.Joining.{terms_join, terms_cut}

module _ {T : Type 0} (canons : T → List Term) where
  next_terms : (vs : List T) (i : ℕ) (x : T) → i < length vs → x ≡ get_or vs i x
      → flat_map canons (take (i + 1) vs) ≡ flat_map canons (take i vs) ++ canons x
  next_terms vs i x l e =
      ap (flat_map canons) (take_more vs i x l ∙ ap (λ y. take i vs ++ y ∷ []) (sym e)) ∙ sym (flat_map_more canons [] (take i vs) x)

  pub next_written : (vs : List T) (i : ℕ) (x : T) (a b c : Encoder) (q : Result (Unit {0}) Error) → i < length vs → x ≡ get_or vs i x
      → q ≡ Ok tt → WritesTerms (flat_map canons (take i vs)) a (Ok tt) b → WritesTerms (canons x) b q c
      → WritesTerms (flat_map canons (take (i + 1) vs)) a (Ok tt) c
  next_written vs i x a b c q l e o w k =
      subst (λ ts. WritesTerms ts a (Ok tt) c) (sym (next_terms vs i x l e))
      (terms_join (flat_map canons (take i vs)) (canons x) a b c (Ok tt) (Ok tt) refl w (subst (λ r. WritesTerms (canons x) b r c) o k))

  pub next_refused : (vs : List T) (i : ℕ) (x : T) (a b c : Encoder) (q r : Result (Unit {0}) Error) (e : Error) → i < length vs
      → x ≡ get_or vs i x → q ≡ Err e → (y : Error) × (r ≡ Err y) × (y ≡ e) → WritesTerms (flat_map canons (take i vs)) a (Ok tt) b
      → WritesTerms (canons x) b q c → WritesTerms (flat_map canons vs) a r c
  next_refused vs i x a b c q r e l at o p w k =
      let front = flat_map canons (take i vs) ++ canons x in
      let rest = flat_map canons (drop (i + 1) vs) in
      let all : flat_map canons vs ≡ front ++ rest =
      ap (flat_map canons) (sym (take-append-drop (i + 1) vs)) ∙ flat_map-append canons (take (i + 1) vs) (drop (i + 1) vs)
      ∙ ap (λ ts. ts ++ rest) (next_terms vs i x l at) in
      subst (λ ts. WritesTerms ts a r c) (sym all)
      (terms_cut front rest a c q r e o p (terms_join (flat_map canons (take i vs)) (canons x) a b c (Ok tt) q refl w k))

  pub all_written_so : (vs : List T) (n : ℕ) (a b : Encoder) → length vs ≤ n → WritesTerms (flat_map canons (take n vs)) a (Ok tt) b
      → WritesTerms (flat_map canons vs) a (Ok tt) b
  all_written_so vs n a b l w = subst (λ xs. WritesTerms (flat_map canons xs) a (Ok tt) b) (take_all n vs l) w
