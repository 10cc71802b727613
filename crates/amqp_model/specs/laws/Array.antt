-- The laws of lists of terms that mean lists of values, one by one.
use Rattle.std.proofs.Common.{◌≡◌, List, [], ◌∷◌, map, All, refl, ap, inl, inr}
use Rattle.std.specs.List.{AllZip}
use Rattle.std.proofs.lemmas.List.Elements.{All-head, All-tail, All-cons, All-nil}
use Rattle.amqp_model.specs.Term.{Term}
use Rattle.amqp_model.specs.laws.Item.{AreFree, free_items}
use Rattle.amqp_model.specs.FieldType.{normal, unchanged, Meaning}

module _ {T : Type 0} (m : Meaning T) where
  pub each_refl : (vs : List T) → AllZip m.same vs vs
  each_refl [] = tt
  each_refl (v ∷ vs) = (m.same_refl v, each_refl vs)

  pub each_sym : (vs ws : List T) → AllZip m.same vs ws → AllZip m.same ws vs
  each_sym [] [] s = tt
  each_sym [] (w ∷ ws) s = s
  each_sym (v ∷ vs) [] s = s
  each_sym (v ∷ vs) (w ∷ ws) s = (m.same_sym v w s.0, each_sym vs ws s.1)

  pub each_trans : (vs ws xs : List T) → AllZip m.same vs ws → AllZip m.same ws xs → AllZip m.same vs xs
  each_trans [] [] xs s z = z
  each_trans [] (w ∷ ws) xs s z = absurd s
  each_trans (v ∷ vs) [] xs s z = absurd s
  each_trans (v ∷ vs) (w ∷ ws) [] s z = z
  each_trans (v ∷ vs) (w ∷ ws) (x ∷ xs) s z = (m.same_trans v w x s.0 z.0, each_trans vs ws xs s.1 z.1)

  pub each_same_value : (vs ws : List T) → AllZip m.same vs ws → All m.is_value vs → All m.is_value ws
  each_same_value [] [] s i = i
  each_same_value [] (w ∷ ws) s i = absurd s
  each_same_value (v ∷ vs) [] s i = absurd s
  each_same_value (v ∷ vs) (w ∷ ws) s i =
      All-cons m.is_value w ws (m.same_value v w s.0 (All-head m.is_value v vs i)) (each_same_value vs ws s.1 (All-tail m.is_value v vs i))

  pub each_same_canon : (vs ws : List T) → AllZip m.same vs ws → map m.canon vs ≡ map m.canon ws
  each_same_canon [] [] s = refl
  each_same_canon [] (w ∷ ws) s = absurd s
  each_same_canon (v ∷ vs) [] s = absurd s
  each_same_canon (v ∷ vs) (w ∷ ws) s = rw (m.same_canon v w s.0, each_same_canon vs ws s.1) refl

  pub each_same_means : (ts : List Term) (vs ws : List T) → AllZip m.same vs ws → AllZip m.means ts vs → AllZip m.means ts ws
  each_same_means [] [] ws s h = s
  each_same_means [] (v ∷ vs) ws s h = absurd h
  each_same_means (t ∷ ts) [] ws s h = absurd h
  each_same_means (t ∷ ts) (v ∷ vs) [] s h = s
  each_same_means (t ∷ ts) (v ∷ vs) (w ∷ ws) s h = (m.same_means t v w s.0 h.0, each_same_means ts vs ws s.1 h.1)

  pub each_one : (ts : List Term) (vs ws : List T) → AllZip m.means ts vs → AllZip m.means ts ws → AllZip m.same vs ws
  each_one [] [] ws h k = k
  each_one [] (v ∷ vs) ws h k = absurd h
  each_one (t ∷ ts) [] ws h k = absurd h
  each_one (t ∷ ts) (v ∷ vs) [] h k = k
  each_one (t ∷ ts) (v ∷ vs) (w ∷ ws) h k = (m.one t v w h.0 k.0, each_one ts vs ws h.1 k.1)

  pub each_canon_means : (vs : List T) → All m.is_value vs → AreFree (map m.canon vs)
      → AllZip m.means (map m.canon vs) (map (normal m.norm) vs)
  each_canon_means [] i f = tt
  each_canon_means (v ∷ vs) i f = (
    m.canon_means v (All-head m.is_value v vs i) (λ r h. f r (inl h)),
    each_canon_means vs (All-tail m.is_value v vs i) (λ r h. f r (inr h)),
  )

  pub each_norm_canon : (vs : List T) → map m.canon (map (normal m.norm) vs) ≡ map m.canon vs
  each_norm_canon [] = refl
  each_norm_canon (v ∷ vs) = rw (m.norm_canon v, each_norm_canon vs) refl

  pub each_norm_norm : (vs : List T) → AllZip m.same (map (normal m.norm) (map (normal m.norm) vs)) (map (normal m.norm) vs)
  each_norm_norm [] = tt
  each_norm_norm (v ∷ vs) = (m.norm_norm v, each_norm_norm vs)

  pub each_value : (ts : List Term) (vs : List T) → AllZip m.means ts vs → All m.is_value vs
  each_value [] [] h = All-nil m.is_value
  each_value [] (v ∷ vs) h = absurd h
  each_value (t ∷ ts) [] h = absurd h
  each_value (t ∷ ts) (v ∷ vs) h = All-cons m.is_value v vs (m.value t v h.0) (each_value ts vs h.1)

  pub each_own : (ts : List Term) (vs : List T) → AllZip m.means ts vs → AllZip m.same (map (normal m.norm) vs) vs
  each_own [] [] h = tt
  each_own [] (v ∷ vs) h = absurd h
  each_own (t ∷ ts) [] h = absurd h
  each_own (t ∷ ts) (v ∷ vs) h = (m.own t v h.0, each_own ts vs h.1)

  pub each_free : (ts : List Term) (vs : List T) → AllZip m.means ts vs → AreFree (map m.canon vs)
  each_free [] [] h = λ r z. z
  each_free [] (v ∷ vs) h = absurd h
  each_free (t ∷ ts) [] h = absurd h
  each_free (t ∷ ts) (v ∷ vs) h = free_items (m.canon v) (map m.canon vs) (m.free t v h.0) (each_free ts vs h.1)

-- items that aren't normalised
pub map_plain : {T : Type 0} (vs : List T) → vs ≡ map (normal unchanged) vs
map_plain [] = refl
map_plain (v ∷ vs) = ap (λ ws. v ∷ ws) (map_plain vs)
