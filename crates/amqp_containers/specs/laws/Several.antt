-- The laws of what stands in a field of several values.
use Rattle.std.proofs.Common.{◌≡◌, inl, inr, ℕ, ◌+◌, Bool, true, false, cond, List, [], ◌∷◌, map, All, refl, ap, subst, sym, ◌∙◌, arith}
use Rattle.std.specs.List.{AllZip}
use Rattle.amqp_model.specs.Term.{null, list, map as map_kind, array, Term, Terms, leaf, container, described, kept}
use Rattle.amqp_model.specs.Term.{barred, none, more}
use Rattle.amqp_model.specs.Standing.{Standing, whole}
use Rattle.amqp_model.specs.Measures.{array_nest}
use Rattle.amqp_model.specs.Ranges.{Everywhere, IsValue, IsNoArray}
use Rattle.amqp_model.specs.Refusals.{IsItem, core}
use Rattle.amqp_model.specs.Items.{items_of, is_null, several, IsFree}
use Rattle.amqp_model.specs.laws.Item.{clash}
use Rattle.amqp_model.specs.FieldRules.{SomeMean, array_or}
use Rattle.amqp_model.proofs.Mixed.{one_form_shared}
use Rattle.amqp_codec.specs.TermType.{TermType, KeepsNoBytes, IsNoShorter, IsLeaf, IsKept}
use Rattle.amqp_codec.specs.FieldTypes.{anywhere, FieldMeant, standing_so, field_never_null, field_keeps_no_bytes}
use Rattle.amqp_codec.specs.laws.KeptBytes.{reads_itself, plain_core}
use Rattle.amqp_codec.specs.laws.OnlySize.{IsFlawless, size_alone}
use Rattle.amqp_codec.specs.laws.Form.{core_has_form}
use Rattle.amqp_codec.specs.Each.{EachMeans, canons_of, count_all, MeansItems}
use Rattle.amqp_codec.specs.laws.Each.{each_induct, canons_valued, canons_plain}
use Rattle.amqp_codec.specs.laws.ItemsType.{items_cases, items_meant}
use Rattle.amqp_containers.specs.Several.{AreLeaves, MeansOne, MeansSeveral}

-- what holds of each array and of each term that is none, holds of all
several_cases : (P : Term → Type 0) → ((ts : Terms) → P (container array ts))
    → ((t : Term) → IsNoArray t → several t ≡ cond (is_null t) [] (t ∷ []) → P t) → (t : Term) → P t
several_cases P f g (container array ts) = f ts
several_cases P f g (container list ts) = g (container list ts) tt refl
several_cases P f g (container map_kind ts) = g (container map_kind ts) tt refl
several_cases P f g (leaf p) = g (leaf p) tt refl
several_cases P f g (described d t) = g (described d t) tt refl
several_cases P f g (kept b) = g (kept b) tt refl
several_cases P f g (barred r) = g (barred r) tt refl

several_alone : (t : Term) → IsNoArray t → is_null t ≡ false → several t ≡ t ∷ []
several_alone = several_cases (λ t. IsNoArray t → is_null t ≡ false → several t ≡ t ∷ []) (λ ts bare n. absurd bare)
    (λ t same e bare n. e ∙ ap (λ b. cond b [] (t ∷ [])) n)

-- an array of one leaf that is free, keeps no bytes and isn't null
flat_one : (x : Term) → IsLeaf x → array_nest (more x none) ≡ 0
flat_one (leaf p) h = refl
flat_one (container k ts) h = absurd h
flat_one (described d t) h = absurd h
flat_one (kept b) h = refl
flat_one (barred r) h = refl

no_null_core : (x : Term) → IsLeaf x → is_null x ≡ false → core x ≡ leaf null → ⊥
no_null_core (leaf p) h n e = clash (ap is_null e) n
no_null_core (container k ts) h n e = cc
no_null_core (described d t) h n e = h
no_null_core (kept b) h n e = cc
no_null_core (barred r) h n e = cc

the_item : (a x : Term) → IsItem a (more x none) → a ≡ x
the_item a x (inl e) = e
the_item a x (inr h) = absurd h

one_flawless : (x : Term) → IsLeaf x → KeepsNoBytes x → IsFree x → is_null x ≡ false → IsFlawless (container array (more x none))
one_flawless x flat plain free n =
    let formed = core_has_form x free (no_null_core x flat n) (plain_core x plain) in
    record {
      unbarred = λ r e. cc;
      unmixed = λ (a, b, i, j, differ). (let y = the_item a x i in let z = the_item b x j in
          one_form_shared a b (rw y formed) (rw (y, z) refl) differ);
      no_null = λ (a, i, e). no_null_core x flat n (ap core (sym (the_item a x i)) ∙ e);
      no_kept = λ (a, b, i, e). plain_core x plain (subst IsKept (sym (ap core (sym (the_item a x i)) ∙ e)) tt);
      ascii = λ h. h;
    }

module _ {T : Type 0} (u : TermType T) (is_never_null : u.is_never_null ≡ true) (ignores_standing : u.ignores_standing ≡ true) where
  abbrev means : Term → T → Type 0
  means = u.means anywhere

  -- how the items stand is nothing to the values
  abbrev stand : Terms → List Standing
  stand none = []
  stand (more t ts) = anywhere ∷ stand ts

  each_anywhere : (ts : Terms) (vs : List T) → AllZip means (items_of ts) vs → EachMeans u.means (stand ts) ts vs
  each_anywhere none [] h = tt
  each_anywhere none (v ∷ vs) h = absurd h
  each_anywhere (more t ts) [] h = absurd h
  each_anywhere (more t ts) (v ∷ vs) h = (h.0, each_anywhere ts vs h.1)

  anywhere_each : (ss : List Standing) (ts : Terms) (vs : List T) → EachMeans u.means ss ts vs → AllZip means (items_of ts) vs
  anywhere_each = each_induct u.means (λ ss ts vs. AllZip means (items_of ts) vs) tt
      (λ s t v ss ts vs m i. (standing_so u ignores_standing s anywhere t v m, i))

  items_mean : (s : Standing) (ts : Terms) (vs : List T) → AllZip means (items_of ts) vs
      → MeansItems u.ignores_standing u.means array s (container array ts) vs
  items_mean s ts vs h = (refl, stand ts, λ e. absurd (clash ignores_standing e), each_anywhere ts vs h)

  -- the items of an array
  items_field : (ts : Terms) (vs : List T) → AllZip means (items_of ts) vs
      → FieldMeant (container array ts) (container array (canons_of u.canon vs)) (count_all u.count vs)
  items_field ts vs h =
      let own = container array (canons_of u.canon vs) in
      let m = items_meant u array tt anywhere (container array ts) vs (items_mean anywhere ts vs h) in
      record {
        missing = λ n. absurd (clash n refl);
        writable = λ b e. (items_meant u array tt (whole b) (container array ts) vs (items_mean (whole b) ts vs h)).writable e;
        nested = m.nested own (reads_itself own (canons_plain u ignores_standing vs));
        counted = omega (arith, m.counted);
      }

  module _ (leaves : AreLeaves u) where
    -- one value by itself
    one_field : (t : Term) (v : T) → is_null t ≡ false → means t v
        → FieldMeant t (container array (more (u.canon v) none)) (u.count v + 0)
    one_field t v n m =
        let k = u.meant anywhere t v m in
        let x = u.canon v in
        record {
          missing = λ e. absurd (clash e n);
          writable = λ b e r i. (elim i [
            | inl f ↦ size_alone (one_flawless x (leaves v) (field_keeps_no_bytes u ignores_standing v) k.free
                (u.never_null is_never_null v)) r f
            | inr (inl f) ↦ (u.meant (whole b) t v (standing_so u ignores_standing anywhere (whole b) t v m)).writable e r f
            | inr (inr f) ↦ absurd f
          ]);
          nested = omega (arith, flat_one x (leaves v));
          counted = omega (arith, k.counted);
        }

    -- the array of the values, or d for none
    module _ (d : Term) where
      from_items : (ts : Terms) (vs : List T) → SomeMean means (items_of ts) vs
          → FieldMeant (container array ts) (array_or d (map u.canon vs)) (count_all u.count vs)
      from_items none vs h = absurd h
      from_items (more t ts) [] h = absurd h
      from_items (more t ts) (v ∷ vs) h = items_field (more t ts) (v ∷ vs) h

      from_one : (t : Term) (b : Bool) → is_null t ≡ b → (vs : List T) → SomeMean means (cond b [] (t ∷ [])) vs
          → FieldMeant t (array_or d (map u.canon vs)) (count_all u.count vs)
      from_one t true n vs h = absurd h
      from_one t false n [] h = absurd h
      from_one t false n (v ∷ []) h = one_field t v n h.0
      from_one t false n (v ∷ w ∷ vs) h = absurd h.1

      pub several_meant : (t : Term) (vs : List T) → SomeMean means (several t) vs
          → FieldMeant t (array_or d (map u.canon vs)) (count_all u.count vs)
      several_meant = several_cases
          (λ t. (vs : List T) → SomeMean means (several t) vs → FieldMeant t (array_or d (map u.canon vs)) (count_all u.count vs))
          from_items (λ t bare e vs h. from_one t (is_null t) refl vs (subst (λ ts. SomeMean means ts vs) e h))

  pub several_valued : (d : Term) → Everywhere IsValue d → (vs : List T) → All u.is_value vs
      → Everywhere IsValue (array_or d (map u.canon vs))
  several_valued d v [] i = v
  several_valued d v (w ∷ ws) i = (tt, canons_valued u (w ∷ ws) i)

  pub several_plain : (d : Term) → KeepsNoBytes d → (vs : List T) → KeepsNoBytes (array_or d (map u.canon vs))
  several_plain d k [] = k
  several_plain d k (v ∷ vs) = canons_plain u ignores_standing (v ∷ vs)

  -- an array is left out of account
  pub several_least : (d : Term) (b : List ℕ) (t : Term) (vs : List T) → (vs ≡ [] → IsNoShorter b t d)
      → IsNoShorter b t (array_or d (map u.canon vs))
  several_least d b t [] h = h refl
  several_least d b t (v ∷ vs) h = λ i n e. absurd n.0

  -- what is read in such a field fits it
  some_items : (ts : Terms) (vs : List T) → AllZip means (items_of ts) vs → (vs ≡ [] → ⊥) → SomeMean means (items_of ts) vs
  some_items none [] h some = some refl
  some_items none (v ∷ vs) h some = h
  some_items (more t ts) vs h some = h

  one_fits : (s : Standing) (t : Term) (vs : List T) → IsNoArray t → MeansOne u.means s t vs → SomeMean means (several t) vs
  one_fits s t [] bare m = absurd m
  one_fits s t (v ∷ []) bare m =
      let k = standing_so u ignores_standing s anywhere t v m in
      let n = field_never_null u is_never_null ignores_standing t v k in
      subst (λ ts. SomeMean means ts (v ∷ [])) (sym (several_alone t bare n)) (k, tt)
  one_fits s t (v ∷ w ∷ vs) bare m = absurd m

  pub several_fits : (s : Standing) (t : Term) (vs : List T) → MeansSeveral u s t vs → (vs ≡ [] → ⊥) → SomeMean means (several t) vs
  several_fits s t vs (inl m) some =
      items_cases u.ignores_standing u.means array s vs (λ t. SomeMean means (several t) vs)
      (λ ts ss p k. some_items ts vs (anywhere_each ss ts vs k) some) t m
  several_fits s t vs (inr (bare, m)) some = one_fits s t vs bare m

  none_means : (ss : List Standing) (ts : Terms) → EachMeans u.means ss ts [] → items_of ts ≡ []
  none_means ss none h = refl
  none_means [] (more t ts) h = absurd h
  none_means (s ∷ ss) (more t ts) h = absurd h

  pub none_fits : (s : Standing) (t : Term) → MeansSeveral u s t [] → several t ≡ []
  none_fits s t (inl m) = items_cases u.ignores_standing u.means array s [] (λ t. several t ≡ []) (λ ts ss p k. none_means ss ts k) t m
  none_fits s t (inr (bare, m)) = absurd m

  -- and what fits it is read, where it isn't null
  each_item : (ts : Terms) (vs : List T) → SomeMean means (items_of ts) vs → AllZip means (items_of ts) vs × (vs ≡ [] → ⊥)
  each_item none vs h = absurd h
  each_item (more t ts) [] h = absurd h
  each_item (more t ts) (v ∷ vs) h = (h, λ e. cc)

  read_one : (s : Standing) (t : Term) (vs : List T) → IsNoArray t → SomeMean means (t ∷ []) vs → MeansSeveral u s t vs × (vs ≡ [] → ⊥)
  read_one s t [] bare h = absurd h
  read_one s t (v ∷ []) bare h = (inr (bare, standing_so u ignores_standing anywhere s t v h.0), λ e. cc)
  read_one s t (v ∷ w ∷ vs) bare h = absurd h.1

  pub several_read : (s : Standing) (t : Term) (vs : List T) → is_null t ≡ false → SomeMean means (several t) vs
      → MeansSeveral u s t vs × (vs ≡ [] → ⊥)
  several_read s t vs = several_cases
      (λ t. is_null t ≡ false → SomeMean means (several t) vs → MeansSeveral u s t vs × (vs ≡ [] → ⊥))
      (λ ts n h. (let k = each_item ts vs h in (inl (items_mean s ts vs k.0), k.1)))
      (λ t bare e n h. read_one s t vs bare (subst (λ ts. SomeMean means ts vs) (several_alone t bare n) h)) t

  none_in : (ts : Terms) → items_of ts ≡ [] → AllZip means (items_of ts) []
  none_in none e = tt
  none_in (more t ts) e = cc

  pub none_read : (s : Standing) (t : Term) → is_null t ≡ false → several t ≡ [] → MeansSeveral u s t []
  none_read s = several_cases (λ t. is_null t ≡ false → several t ≡ [] → MeansSeveral u s t [])
      (λ ts n e. inl (items_mean s ts [] (none_in ts e)))
      (λ t bare e n h. absurd (let both : t ∷ [] ≡ [] = sym (several_alone t bare n) ∙ h in cc))
