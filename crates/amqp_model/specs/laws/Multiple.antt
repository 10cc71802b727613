-- The laws of fields of several values.
use Rattle.std.proofs.Common.{◌≡◌, true, List, [], ◌∷◌, map, All, Option, Some, None, IfSome, refl, sym, ap, subst, ◌∙◌}
use Rattle.amqp_model.specs.Term.{Term, empty_multiple, null, leaf, barred}
use Rattle.amqp_model.specs.Items.{is_null, several, IsFree}
use Rattle.amqp_model.specs.laws.Item.{items_of-terms_of, several_null}
use Rattle.amqp_model.specs.FieldType.{normal, by_norm, Meaning}
use Rattle.amqp_model.specs.FieldRules.{SameOption, ArrayOf, SomeMean, MultipleMeans, array_or, multiple_canon, some_or_none, multiple_normal}
use Rattle.amqp_model.specs.FieldRules.{SameContents}
use Rattle.amqp_model.specs.laws.Option.{option_refl, option_sym, option_trans, same_is_value}
use Rattle.amqp_model.specs.laws.Array.{each_refl, each_sym, each_trans, each_same_value, each_same_canon, each_same_means, each_one}
use Rattle.amqp_model.specs.laws.Array.{each_canon_means, each_norm_canon, each_norm_norm, each_value, each_own, each_free}

-- what stands in an array of some terms
several_array : (d t : Term) (ts : List Term) → several (array_or d (t ∷ ts)) ≡ t ∷ ts
several_array d t ts = ap (λ us. t ∷ us) (items_of-terms_of ts)

module _ {A V : Type 0} (m : Meaning A) (c : ArrayOf m V) where
  pub some_same_means : (ts : List Term) (v w : V) → SameContents m c v w → SomeMean m.means ts (c.contents v)
      → SomeMean m.means ts (c.contents w)
  some_same_means [] v w s h = h
  some_same_means (t ∷ ts) v w s h = each_same_means m (t ∷ ts) (c.contents v) (c.contents w) s h

  pub some_one : (ts : List Term) (v w : V) → SomeMean m.means ts (c.contents v) → SomeMean m.means ts (c.contents w) → SameContents m c v w
  some_one [] v w h k = absurd h
  some_one (t ∷ ts) v w h k = each_one m (t ∷ ts) (c.contents v) (c.contents w) h k

  pub same_array : (d : Term) (v w : V) → SameContents m c v w
      → array_or d (map m.canon (c.contents v)) ≡ array_or d (map m.canon (c.contents w))
  same_array d v w s = ap (array_or d) (each_same_canon m (c.contents v) (c.contents w) s)

  pub norm_array : (d : Term) (v : V) → array_or d (map m.canon (c.contents (normal c.norm v))) ≡ array_or d (map m.canon (c.contents v))
  norm_array d v = ap (array_or d) (ap (map m.canon) (c.norm_contents v) ∙ each_norm_canon m (c.contents v))

  pub norm_twice : (v : V) → SameContents m c (normal c.norm (normal c.norm v)) (normal c.norm v)
  norm_twice v = rw (c.norm_contents (normal c.norm v), c.norm_contents v) (each_norm_norm m (c.contents v))

  pub some_canon_means : (d : Term) (vs : List A) (w : V) → c.contents w ≡ map (normal m.norm) vs → All m.is_value vs
      → IsFree (array_or d (map m.canon vs)) → (vs ≡ [] → ⊥) → SomeMean m.means (several (array_or d (map m.canon vs))) (c.contents w)
  some_canon_means d [] w e i f n = absurd (n refl)
  some_canon_means d (v ∷ vs) w e i f n =
      subst (λ ts. SomeMean m.means ts (c.contents w)) (sym (several_array d (m.canon v) (map m.canon vs)))
      (rw e (each_canon_means m (v ∷ vs) i f))

  pub some_value : (ts : List Term) (v : V) → SomeMean m.means ts (c.contents v) → All m.is_value (c.contents v)
  some_value [] v h = absurd h
  some_value (t ∷ ts) v h = each_value m (t ∷ ts) (c.contents v) h

  pub some_own : (ts : List Term) (v : V) → SomeMean m.means ts (c.contents v) → SameContents m c (normal c.norm v) v
  some_own [] v h = absurd h
  some_own (t ∷ ts) v h = rw (c.norm_contents v) (each_own m (t ∷ ts) (c.contents v) h)

  pub some_free : (d : Term) (ts : List Term) (vs : List A) → SomeMean m.means ts vs → IsFree (array_or d (map m.canon vs))
  some_free d [] vs h = absurd h
  some_free d (t ∷ ts) [] h = absurd h
  some_free d (t ∷ ts) (v ∷ vs) h = each_free m (t ∷ ts) (v ∷ vs) h

  -- at least one value
  pub mandatory_canon_means_at : (vs : List A) (w : V) → c.contents w ≡ map (normal m.norm) vs → All m.is_value vs
      → IsFree (array_or (barred empty_multiple) (map m.canon vs))
      → SomeMean m.means (several (array_or (barred empty_multiple) (map m.canon vs))) (c.contents w)
  mandatory_canon_means_at [] w e i f = absurd (f empty_multiple refl)
  mandatory_canon_means_at (v ∷ vs) w e i f = some_canon_means (barred empty_multiple) (v ∷ vs) w e i f (λ n. absurd (cc))

  abbrev pub mandatory_multiple_meaning : Meaning V
  mandatory_multiple_meaning = record {
    is_value = λ v. All m.is_value (c.contents v);
    means = λ t v. SomeMean m.means (several t) (c.contents v);
    canon = λ v. array_or (barred empty_multiple) (map m.canon (c.contents v));
    norm = c.norm;
    same = SameContents m c;
    same_refl = λ v. each_refl m (c.contents v);
    same_sym = λ v w. each_sym m (c.contents v) (c.contents w);
    same_trans = λ v w x. each_trans m (c.contents v) (c.contents w) (c.contents x);
    same_value = λ v w. each_same_value m (c.contents v) (c.contents w);
    same_means = λ t. some_same_means (several t);
    same_canon = same_array (barred empty_multiple);
    one = λ t. some_one (several t);
    canon_means = λ v. mandatory_canon_means_at (c.contents v) (normal c.norm v) (c.norm_contents v);
    norm_canon = norm_array (barred empty_multiple);
    norm_norm = norm_twice;
    value = λ t. some_value (several t);
    own = λ t. some_own (several t);
    free = λ t v. some_free (barred empty_multiple) (several t) (c.contents v);
  }

  pub some_null : (t : Term) (v : V) → is_null t ≡ true → SomeMean m.means (several t) (c.contents v) → ⊥
  some_null t v e h = subst (λ ts. SomeMean m.means ts (c.contents v)) (several_null t e) h

  -- any number of values
  pub none_or_some : (ts : List Term) (v : V) → ts ≡ [] → SomeMean m.means ts (c.contents v) → ⊥
  none_or_some [] v e h = h
  none_or_some (t ∷ ts) v e h = absurd (cc)

  pub multiple_same_means : (ts : List Term) (v w : Option V) → SameOption (SameContents m c) v w → MultipleMeans m c ts v
      → MultipleMeans m c ts w
  multiple_same_means ts None None s h = h
  multiple_same_means ts None (Some w) s h = absurd s
  multiple_same_means ts (Some v) None s h = absurd s
  multiple_same_means ts (Some v) (Some w) s h = some_same_means ts v w s h

  pub multiple_same_canon : (v w : Option V) → SameOption (SameContents m c) v w → multiple_canon m c v ≡ multiple_canon m c w
  multiple_same_canon None None s = refl
  multiple_same_canon None (Some w) s = absurd s
  multiple_same_canon (Some v) None s = absurd s
  multiple_same_canon (Some v) (Some w) s = same_array (leaf null) v w s

  pub multiple_one : (ts : List Term) (v w : Option V) → MultipleMeans m c ts v → MultipleMeans m c ts w → SameOption (SameContents m c) v w
  multiple_one ts None None h k = tt
  multiple_one ts None (Some w) h k = none_or_some ts w h k
  multiple_one ts (Some v) None h k = none_or_some ts v k h
  multiple_one ts (Some v) (Some w) h k = some_one ts v w h k

  pub canon_means_at : (vs : List A) (w : V) → c.contents w ≡ map (normal m.norm) vs → All m.is_value vs
      → IsFree (array_or (leaf null) (map m.canon vs))
      → MultipleMeans m c (several (array_or (leaf null) (map m.canon vs))) (some_or_none vs w)
  canon_means_at [] w e i f = refl
  canon_means_at (v ∷ vs) w e i f = some_canon_means (leaf null) (v ∷ vs) w e i f (λ n. absurd (cc))

  pub multiple_canon_means : (v : Option V) → IfSome v (λ w. All m.is_value (c.contents w)) → IsFree (multiple_canon m c v)
      → MultipleMeans m c (several (multiple_canon m c v)) (multiple_normal m c v)
  multiple_canon_means None i f = refl
  multiple_canon_means (Some v) i f = canon_means_at (c.contents v) (normal c.norm v) (c.norm_contents v) i f

  pub norm_canon_at : (vs : List A) (w : V) → c.contents w ≡ map (normal m.norm) vs
      → multiple_canon m c (some_or_none vs w) ≡ array_or (leaf null) (map m.canon vs)
  norm_canon_at [] w e = refl
  norm_canon_at (v ∷ vs) w e = ap (array_or (leaf null)) (ap (map m.canon) e ∙ each_norm_canon m (v ∷ vs))

  pub multiple_norm_canon : (v : Option V) → multiple_canon m c (multiple_normal m c v) ≡ multiple_canon m c v
  multiple_norm_canon None = refl
  multiple_norm_canon (Some v) = norm_canon_at (c.contents v) (normal c.norm v) (c.norm_contents v)

  pub norm_norm_at : (vs : List A) (w : V) → c.contents w ≡ map (normal m.norm) vs → SameContents m c (normal c.norm w) w
      → SameOption (SameContents m c) (multiple_normal m c (some_or_none vs w)) (some_or_none vs w)
  norm_norm_at [] w e s = tt
  norm_norm_at (v ∷ vs) w e s = subst (λ xs. SameOption (SameContents m c) (some_or_none xs (normal c.norm w)) (Some w)) (sym e) s

  pub multiple_norm_norm : (v : Option V)
      → SameOption (SameContents m c) (multiple_normal m c (multiple_normal m c v)) (multiple_normal m c v)
  multiple_norm_norm None = tt
  multiple_norm_norm (Some v) = norm_norm_at (c.contents v) (normal c.norm v) (c.norm_contents v) (norm_twice v)

  pub multiple_value : (ts : List Term) (v : Option V) → MultipleMeans m c ts v → IfSome v (λ w. All m.is_value (c.contents w))
  multiple_value ts None h = tt
  multiple_value ts (Some v) h = some_value ts v h

  pub own_at : (ts : List Term) (vs : List A) (v w : V) → SomeMean m.means ts vs → SameContents m c w v
      → SameOption (SameContents m c) (some_or_none vs w) (Some v)
  own_at [] vs v w h s = absurd h
  own_at (t ∷ ts) [] v w h s = absurd h
  own_at (t ∷ ts) (x ∷ xs) v w h s = s

  pub multiple_own : (ts : List Term) (v : Option V) → MultipleMeans m c ts v → SameOption (SameContents m c) (multiple_normal m c v) v
  multiple_own ts None h = tt
  multiple_own ts (Some v) h = own_at ts (c.contents v) v (normal c.norm v) h (some_own ts v h)

  pub multiple_free : (ts : List Term) (v : Option V) → MultipleMeans m c ts v → IsFree (multiple_canon m c v)
  multiple_free ts None h = λ r z. z
  multiple_free ts (Some v) h = some_free (leaf null) ts (c.contents v) h

  abbrev pub multiple_meaning : Meaning (Option V)
  multiple_meaning = record {
    is_value = λ v. IfSome v (λ w. All m.is_value (c.contents w));
    means = λ t. MultipleMeans m c (several t);
    canon = multiple_canon m c;
    norm = by_norm (multiple_normal m c);
    same = SameOption (SameContents m c);
    same_refl = option_refl (SameContents m c) (λ v. each_refl m (c.contents v));
    same_sym = option_sym (SameContents m c) (λ v w. each_sym m (c.contents v) (c.contents w));
    same_trans = option_trans (SameContents m c) (λ v w x. each_trans m (c.contents v) (c.contents w) (c.contents x));
    same_value =
        same_is_value (SameContents m c) (λ w. All m.is_value (c.contents w)) (λ v w. each_same_value m (c.contents v) (c.contents w));
    same_means = λ t. multiple_same_means (several t);
    same_canon = multiple_same_canon;
    one = λ t. multiple_one (several t);
    canon_means = multiple_canon_means;
    norm_canon = multiple_norm_canon;
    norm_norm = multiple_norm_norm;
    value = λ t. multiple_value (several t);
    own = λ t. multiple_own (several t);
    free = λ t. multiple_free (several t);
  }

  pub multiple_null_alike : (t : Term) (v : Option V) → is_null t ≡ true → MultipleMeans m c (several t) v
      → MultipleMeans m c (several (leaf null)) v
  multiple_null_alike t None e h = refl
  multiple_null_alike t (Some v) e h = absurd (some_null t v e h)

  pub multiple_null_canon : (v : Option V) → MultipleMeans m c (several (leaf null)) v → is_null (multiple_canon m c v) ≡ true
  multiple_null_canon None h = refl
  multiple_null_canon (Some v) h = absurd h
