-- The laws of fields with a default value.
use Rattle.std.proofs.Common.{◌≡◌, Bool, true, false, cond, refl, sym, ◌∙◌, inl, inr}
use Rattle.amqp_model.specs.Term.{Term, null, leaf}
use Rattle.amqp_model.specs.Items.{is_null, IsFree}
use Rattle.amqp_model.specs.FieldType.{normal, Meaning, NeverNull}
use Rattle.amqp_model.specs.FieldRules.{DefaultValue, DefaultMeans, default_canon}
use Rattle.amqp_model.specs.laws.Item.{clash}

alike : (a b : Bool) → (a ≡ true → b ≡ true) → (b ≡ true → a ≡ true) → a ≡ b
alike true b f g = sym (f refl)
alike false true f g = g refl
alike false false f g = refl

module _ {T : Type 0} (m : Meaning T) (never_null : NeverNull m) (d : DefaultValue m) where
  test_same : (v w : T) → m.same v w → d.test v ≡ d.test w
  test_same v w s =
      alike (d.test v) (d.test w) (λ e. d.complete w (m.same_trans w v d.value (m.same_sym v w s) (d.sound v e)))
      (λ e. d.complete v (m.same_trans v w d.value s (d.sound w e)))

  pub default_same_value : (v : T) → m.same v d.value → m.is_value v
  default_same_value v s = m.same_value d.value v (m.same_sym v d.value s) d.is_value

  pub default_same_means : (t : Term) (v w : T) → m.same v w → DefaultMeans m d t v → DefaultMeans m d t w
  default_same_means t v w s (inl h) = inl (m.same_means t v w s h)
  default_same_means t v w s (inr h) = inr (h.0, m.same_trans w v d.value (m.same_sym v w s) h.1)

  pub default_same_canon : (v w : T) → m.same v w → default_canon m d v ≡ default_canon m d w
  default_same_canon v w s = rw (test_same v w s, m.same_canon v w s) refl

  pub default_one : (t : Term) (v w : T) → DefaultMeans m d t v → DefaultMeans m d t w → m.same v w
  default_one t v w (inl h) (inl k) = m.one t v w h k
  default_one t v w (inl h) (inr k) = absurd (clash k.0 (never_null t v h))
  default_one t v w (inr h) (inl k) = absurd (clash h.0 (never_null t w k))
  default_one t v w (inr h) (inr k) = m.same_trans v d.value w h.1 (m.same_sym w d.value k.1)

  canon_means_at : (b : Bool) (v : T) → d.test v ≡ b → m.is_value v → IsFree (cond b (leaf null) (m.canon v))
      → DefaultMeans m d (cond b (leaf null) (m.canon v)) (normal m.norm v)
  canon_means_at true v e i f = inr (refl, d.sound (normal m.norm v) (d.test_normal v ∙ e))
  canon_means_at false v e i f = inl (m.canon_means v i f)

  pub default_canon_means : (v : T) → m.is_value v → IsFree (default_canon m d v) → DefaultMeans m d (default_canon m d v) (normal m.norm v)
  default_canon_means v i f = canon_means_at (d.test v) v refl i f

  pub default_norm_canon : (v : T) → default_canon m d (normal m.norm v) ≡ default_canon m d v
  default_norm_canon v = rw (d.test_normal v, m.norm_canon v) refl

  pub default_value : (t : Term) (v : T) → DefaultMeans m d t v → m.is_value v
  default_value t v (inl h) = m.value t v h
  default_value t v (inr h) = default_same_value v h.1

  pub default_own : (t : Term) (v : T) → DefaultMeans m d t v → m.same (normal m.norm v) v
  default_own t v (inl h) = m.own t v h
  default_own t v (inr h) =
      m.same_trans (normal m.norm v) d.value v (d.sound (normal m.norm v) (d.test_normal v ∙ d.complete v h.1)) (m.same_sym v d.value h.1)

  free_at : (b : Bool) (v : T) → IsFree (m.canon v) → IsFree (cond b (leaf null) (m.canon v))
  free_at true v f = λ r z. z
  free_at false v f = f

  pub default_free : (t : Term) (v : T) → DefaultMeans m d t v → IsFree (default_canon m d v)
  default_free t v (inl h) = free_at (d.test v) v (m.free t v h)
  default_free t v (inr h) = rw (d.complete v h.1) (λ r z. z)

  abbrev pub default_meaning : Meaning T
  default_meaning = record {
    is_value = m.is_value;
    means = DefaultMeans m d;
    canon = default_canon m d;
    norm = m.norm;
    same = m.same;
    same_refl = m.same_refl;
    same_sym = m.same_sym;
    same_trans = m.same_trans;
    same_value = m.same_value;
    same_means = default_same_means;
    same_canon = default_same_canon;
    one = default_one;
    canon_means = default_canon_means;
    norm_canon = default_norm_canon;
    norm_norm = m.norm_norm;
    value = default_value;
    own = default_own;
    free = default_free;
  }

  pub default_null_alike : (t : Term) (v : T) → is_null t ≡ true → DefaultMeans m d t v → DefaultMeans m d (leaf null) v
  default_null_alike t v e (inl h) = absurd (clash e (never_null t v h))
  default_null_alike t v e (inr h) = inr (refl, h.1)

  pub default_null_canon : (v : T) → DefaultMeans m d (leaf null) v → is_null (default_canon m d v) ≡ true
  default_null_canon v (inl h) = absurd (clash refl (never_null (leaf null) v h))
  default_null_canon v (inr h) = rw (d.complete v h.1) refl
