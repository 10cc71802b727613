-- What the place of the first pair with a key says of the calls of a map.
use Rattle.std.proofs.Common.{◌≡◌, ℕ, zero, suc, ◌+◌, Bool, cond, not, nat_lt, if◌then◌else◌, List, [], ◌∷◌, ◌++◌, Some, None}
use Rattle.std.proofs.Common.{position, remove, slice_set, get_or, ap, ap₂, ◌∙◌, sym, refl}
use Rattle.std.specs.List.{position_or_len}
use Rattle.std.specs.Map.{keys_of, lookup, remove_entry}
use Rattle.std.proofs.lemmas.Map.Entries.{length-keys_of}
use Rattle.std_collections.proofs.HashLookup.{IsFirst, IsAbsent}
use Rattle.indexmap.specs.IndexMap.{insert_entry}
use Rattle.indexmap.proofs.MapLemmas.{Found, Found-position, Missing, Missing-position, remove_entry-first}
use Rattle.indexmap.proofs.MapLemmas.{insert_entry-absent}

module _ {K V : Type 0} (t : K → Bool) where
  or_len_is : (ps : List (K × V)) → position_or_len (λ p. t p.0) ps ≡ position_or_len t (keys_of ps)
  or_len_is [] = refl
  or_len_is (p ∷ ps) = ap (λ n. cond (not (t p.0)) (1 + n) 0) (or_len_is ps)

  place_is : (ps : List (K × V)) → position (λ p. t p.0) ps ≡ position t (keys_of ps)
  place_is ps = ap₂ (λ n m. cond (nat_lt n m) (Some n) None) (or_len_is ps) (sym (length-keys_of ps))

  pub found : (ps : List (K × V)) (i : ℕ) → position (λ p. t p.0) ps ≡ Some i → Found t ps i
  found ps i e = Found-position t ps i (sym (place_is ps) ∙ e)

  pub missing : (ps : List (K × V)) → position (λ p. t p.0) ps ≡ None → Missing t ps
  missing ps e = Missing-position t ps (sym (place_is ps) ∙ e)

  -- the pair there is the one that is found
  value_there : (ps : List (K × V)) (i : ℕ) (p : K × V) → IsFirst t ps i → p ≡ get_or ps i p → Some p.1 ≡ lookup t ps
  value_there [] i p h e = absurd h
  value_there (q ∷ qs) zero p h e = ap (λ x. Some x.1) e ∙ sym (ap (λ b. cond b (Some q.1) (lookup t qs)) h)
  value_there (q ∷ qs) (suc i) p h e = value_there qs i p h.1 e ∙ sym (ap (λ b. cond b (Some q.1) (lookup t qs)) h.0)

  pub value_at : (ps : List (K × V)) (i : ℕ) (p : K × V) → position (λ p. t p.0) ps ≡ Some i → p ≡ get_or ps i p → Some p.1 ≡ lookup t ps
  value_at ps i p e = value_there ps i p (found ps i e).first

  pub no_value : (ps : List (K × V)) → position (λ p. t p.0) ps ≡ None → None ≡ lookup t ps
  no_value ps e = sym (missing ps e).value

  pub removed_at : (ps : List (K × V)) (i : ℕ) → position (λ p. t p.0) ps ≡ Some i → remove ps i ≡ remove_entry t ps
  removed_at ps i e = sym (remove_entry-first t ps i (found ps i e).first)

  none_removed : (ps : List (K × V)) → IsAbsent t ps → ps ≡ remove_entry t ps
  none_removed [] h = refl
  none_removed (p ∷ ps) h = ap (λ qs. p ∷ qs) (none_removed ps h.1) ∙ sym (ap (λ b. cond b ps (p ∷ remove_entry t ps)) h.0)

  pub nothing_removed : (ps : List (K × V)) → position (λ p. t p.0) ps ≡ None → ps ≡ remove_entry t ps
  nothing_removed ps e = none_removed ps (missing ps e).absent

module _ {K V : Type 0} (eq : K → K → Bool) (k : K) (v : V) where
  set_there : (ps : List (K × V)) (i : ℕ) (p : K × V) → IsFirst (eq k) ps i → p ≡ get_or ps i p
      → slice_set ps i (p.0, v) ≡ insert_entry eq ps k v
  set_there [] i p h e = absurd h
  set_there (q ∷ qs) zero p h e =
      ap (λ x. (x.0, v) ∷ qs) e ∙ sym (ap (λ b. if b then (q.0, v) ∷ qs else q ∷ insert_entry eq qs k v) h)
  set_there (q ∷ qs) (suc i) p h e =
      ap (λ x. q ∷ x) (set_there qs i p h.1 e) ∙ sym (ap (λ b. if b then (q.0, v) ∷ qs else q ∷ insert_entry eq qs k v) h.0)

  pub set_at : (ps : List (K × V)) (i : ℕ) (p : K × V) → position (λ p. eq k p.0) ps ≡ Some i → p ≡ get_or ps i p
      → slice_set ps i (p.0, v) ≡ insert_entry eq ps k v
  set_at ps i p e = set_there ps i p (found (eq k) ps i e).first

  pub put_last : (ps : List (K × V)) → position (λ p. eq k p.0) ps ≡ None → ps ++ (k, v) ∷ [] ≡ insert_entry eq ps k v
  put_last ps e = sym (insert_entry-absent eq k v ps (missing (eq k) ps e).absent)
