-- What the place of the pair with a key says of the calls of a row.
use Rattle.std.proofs.Common.{◌≡◌, ℕ, zero, suc, ◌+◌, ◌<◌, Bool, true, false, cond, not, nat_lt, List, [], ◌∷◌, ◌++◌, Some, None, length}
use Rattle.std.proofs.Common.{Option, IsSome, is_some, true≢false, position, remove, slice_set, get_or, ap, ap₂, ◌∙◌, sym, refl, arith}
use Rattle.std.specs.List.{position_or_len}
use Rattle.std.specs.Map.{keys_of, values_of, lookup, remove_entry}
use Rattle.std.proofs.lemmas.Map.{NonePasses, none_passes_from_lookup}
use Rattle.std.proofs.lemmas.Map.Entries.{length-keys_of, length-values_of}
use Rattle.std.proofs.lemmas.Option.{slice_get-get_or}
use Rattle.std.proofs.Math.ListN.{get_or-map}
use Rattle.indexmap.specs.IndexMap.{insert_entry, set_value_at}
use Rattle.indexmap.proofs.MapLemmas.{Found, Found-position, Missing, Missing-position, some_index, remove_entry-first}
use Rattle.indexmap.proofs.MapLemmas.{insert_entry-first, insert_entry-absent}

-- what isn't there is none
pub none_of : {A : Type 0} (o : Option A) → ((x : A) → o ≡ Some x → ⊥) → o ≡ None
none_of None h = refl
none_of (Some x) h = absurd (h x refl)

module _ {K V : Type 0} (t : K → Bool) where
  or_len_is : (ps : List (K × V)) → position_or_len (λ p. t p.0) ps ≡ position_or_len t (keys_of ps)
  or_len_is [] = refl
  or_len_is (p ∷ ps) = ap (λ n. cond (not (t p.0)) (1 + n) 0) (or_len_is ps)

  place_is : (ps : List (K × V)) → position (λ p. t p.0) ps ≡ position t (keys_of ps)
  place_is ps = ap₂ (λ n m. cond (nat_lt n m) (Some n) None) (or_len_is ps) (sym (length-keys_of ps))

  pub found : (ps : List (K × V)) (i : ℕ) → position (λ p. t p.0) ps ≡ Some i → Found t ps i
  found ps i e = Found-position t ps i (sym (place_is ps) ∙ e)

  pub missing : (ps : List (K × V)) → position (λ p. t p.0) ps ≡ None → Missing t ps
  missing ps e = Missing-position t ps (sym (place_is ps) ∙ e)

  -- the pair there is the one that is found
  pub value_at : (ps : List (K × V)) (i : ℕ) (p : K × V) → position (λ p. t p.0) ps ≡ Some i → p ≡ get_or ps i p → Some p.1 ≡ lookup t ps
  value_at ps i p e there =
      let f = found ps i e in
      let within : i < length (values_of ps) = omega (arith, f.within, length-values_of ps) in
      sym (f.value ∙ slice_get-get_or (values_of ps) i p.1 within
      ∙ ap Some (get_or-map (λ (q : K × V). q.1) ps i p ∙ ap (λ (q : K × V). q.1) (sym there)))

  pub no_value : (ps : List (K × V)) → position (λ p. t p.0) ps ≡ None → None ≡ lookup t ps
  no_value ps e = sym (missing ps e).value

  pub not_known : (ps : List (K × V)) → position (λ p. t p.0) ps ≡ None → IsSome (lookup t ps) → ⊥
  not_known ps e h = true≢false (sym h ∙ ap is_some (missing ps e).value)

  -- whether a key was found. o: its place
  pub known_there : (ps : List (K × V)) (o : Option ℕ) → o ≡ position (λ p. t p.0) ps → is_some o ≡ true → IsSome (lookup t ps)
  known_there ps o e f = sym (some_index t ps) ∙ ap is_some (sym (place_is ps) ∙ sym e) ∙ f

  pub unknown_there : (ps : List (K × V)) (o : Option ℕ) → o ≡ position (λ p. t p.0) ps → is_some o ≡ false → lookup t ps ≡ None
  unknown_there ps None e f = (missing ps (sym e)).value
  unknown_there ps (Some i) e f = absurd (true≢false f)

  pub removed_at : (ps : List (K × V)) (i : ℕ) → position (λ p. t p.0) ps ≡ Some i → remove ps i ≡ remove_entry t ps
  removed_at ps i e = sym (remove_entry-first t ps i (found ps i e).first)

  none_removed : (ps : List (K × V)) → NonePasses t ps → ps ≡ remove_entry t ps
  none_removed [] h = refl
  none_removed (p ∷ ps) h = ap (λ qs. p ∷ qs) (none_removed ps h.1) ∙ sym (ap (λ b. cond b ps (p ∷ remove_entry t ps)) h.0)

  pub nothing_removed : (ps : List (K × V)) → position (λ p. t p.0) ps ≡ None → ps ≡ remove_entry t ps
  nothing_removed ps e = none_removed ps (none_passes_from_lookup t ps (missing ps e).value)

-- a value is set in its pair
set_there : {K V : Type 0} (v : V) (ps : List (K × V)) (i : ℕ) (p : K × V) → i < length ps → p ≡ get_or ps i p
    → slice_set ps i (p.0, v) ≡ set_value_at ps i v
set_there v [] i p h e = absurd (omega (arith, h))
set_there v (q ∷ qs) zero p h e = ap (λ x. (x.0, v) ∷ qs) e
set_there v (q ∷ qs) (suc i) p h e = ap (λ x. q ∷ x) (set_there v qs i p (omega (arith, h)) e)

module _ {K V : Type 0} (eq : K → K → Bool) (k : K) (v : V) where
  pub set_at : (ps : List (K × V)) (i : ℕ) (p : K × V) → position (λ p. eq k p.0) ps ≡ Some i → p ≡ get_or ps i p
      → slice_set ps i (p.0, v) ≡ insert_entry eq ps k v
  set_at ps i p e there =
      let f = found (eq k) ps i e in set_there v ps i p f.within there ∙ sym (insert_entry-first eq k v ps i f.first)

  pub put_last : (ps : List (K × V)) → position (λ p. eq k p.0) ps ≡ None → ps ++ (k, v) ∷ [] ≡ insert_entry eq ps k v
  put_last ps e = sym (insert_entry-absent eq k v ps (missing (eq k) ps e).absent)
