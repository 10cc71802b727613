-- The laws of optional fields.
use Rattle.std.proofs.Common.{◌≡◌, true, Option, Some, None, IfSome, refl}
use Rattle.amqp_model.specs.Term.{Term, null, leaf}
use Rattle.amqp_model.specs.Items.{is_null, IsFree}
use Rattle.amqp_model.specs.laws.Item.{clash}
use Rattle.amqp_model.specs.FieldType.{Norm, normal, unchanged, by_norm, Meaning, NeverNull}
use Rattle.amqp_model.specs.FieldRules.{OptionMeans, option_canon, option_norm, SameOption}

none_normal : {T : Type 0} (n : Norm T) → normal (option_norm n) None ≡ None
none_normal unchanged = refl
none_normal (by_norm f) = refl

some_normal : {T : Type 0} (n : Norm T) (v : T) → normal (option_norm n) (Some v) ≡ Some (normal n v)
some_normal unchanged v = refl
some_normal (by_norm f) v = refl

module _ {T : Type 0} (same : T → T → Type 0) where
  pub option_refl : ((v : T) → same v v) → (v : Option T) → SameOption same v v
  option_refl h None = tt
  option_refl h (Some v) = h v

  pub option_sym : ((v w : T) → same v w → same w v) → (v w : Option T) → SameOption same v w → SameOption same w v
  option_sym h None None s = tt
  option_sym h None (Some w) s = s
  option_sym h (Some v) None s = s
  option_sym h (Some v) (Some w) s = h v w s

  pub option_trans : ((v w x : T) → same v w → same w x → same v x) → (v w x : Option T) → SameOption same v w
      → SameOption same w x → SameOption same v x
  option_trans h None None x s z = z
  option_trans h None (Some w) x s z = absurd s
  option_trans h (Some v) None x s z = absurd s
  option_trans h (Some v) (Some w) None s z = z
  option_trans h (Some v) (Some w) (Some x) s z = h v w x s z

  pub same_is_value : (P : T → Type 0) → ((v w : T) → same v w → P v → P w) → (v w : Option T) → SameOption same v w
      → IfSome v P → IfSome w P
  same_is_value P h None None s i = tt
  same_is_value P h None (Some w) s i = absurd s
  same_is_value P h (Some v) None s i = tt
  same_is_value P h (Some v) (Some w) s i = h v w s i

  pub option_same_canon : (canon : T → Term) → ((v w : T) → same v w → canon v ≡ canon w) → (v w : Option T) → SameOption same v w
      → option_canon canon v ≡ option_canon canon w
  option_same_canon c h None None s = refl
  option_same_canon c h None (Some w) s = absurd s
  option_same_canon c h (Some v) None s = absurd s
  option_same_canon c h (Some v) (Some w) s = h v w s

module _ {T : Type 0} (m : Meaning T) (never_null : NeverNull m) where
  pub option_same_means : (t : Term) (v w : Option T) → SameOption m.same v w → OptionMeans m.means t v → OptionMeans m.means t w
  option_same_means t None None s h = h
  option_same_means t None (Some w) s h = absurd s
  option_same_means t (Some v) None s h = absurd s
  option_same_means t (Some v) (Some w) s h = m.same_means t v w s h

  pub option_one : (t : Term) (v w : Option T) → OptionMeans m.means t v → OptionMeans m.means t w → SameOption m.same v w
  option_one t None None h k = tt
  option_one t None (Some w) h k = clash h (never_null t w k)
  option_one t (Some v) None h k = clash k (never_null t v h)
  option_one t (Some v) (Some w) h k = m.one t v w h k

  pub option_canon_means : (v : Option T) → IfSome v m.is_value → IsFree (option_canon m.canon v)
      → OptionMeans m.means (option_canon m.canon v) (normal (option_norm m.norm) v)
  option_canon_means None i f = rw (none_normal m.norm) refl
  option_canon_means (Some v) i f = rw (some_normal m.norm v) (m.canon_means v i f)

  pub option_norm_canon : (v : Option T) → option_canon m.canon (normal (option_norm m.norm) v) ≡ option_canon m.canon v
  option_norm_canon None = rw (none_normal m.norm) refl
  option_norm_canon (Some v) = rw (some_normal m.norm v) (m.norm_canon v)

  pub option_norm_norm : (v : Option T)
      → SameOption m.same (normal (option_norm m.norm) (normal (option_norm m.norm) v)) (normal (option_norm m.norm) v)
  option_norm_norm None = rw (none_normal m.norm, none_normal m.norm) tt
  option_norm_norm (Some v) = rw (some_normal m.norm v, some_normal m.norm (normal m.norm v)) (m.norm_norm v)

  pub option_value : (t : Term) (v : Option T) → OptionMeans m.means t v → IfSome v m.is_value
  option_value t None h = tt
  option_value t (Some v) h = m.value t v h

  pub option_own : (t : Term) (v : Option T) → OptionMeans m.means t v → SameOption m.same (normal (option_norm m.norm) v) v
  option_own t None h = rw (none_normal m.norm) tt
  option_own t (Some v) h = rw (some_normal m.norm v) (m.own t v h)

  pub option_free : (t : Term) (v : Option T) → OptionMeans m.means t v → IsFree (option_canon m.canon v)
  option_free t None h = λ r z. z
  option_free t (Some v) h = m.free t v h

  abbrev pub option_meaning : Meaning (Option T)
  option_meaning = record {
    is_value = λ v. IfSome v m.is_value;
    means = OptionMeans m.means;
    canon = option_canon m.canon;
    norm = option_norm m.norm;
    same = SameOption m.same;
    same_refl = option_refl m.same m.same_refl;
    same_sym = option_sym m.same m.same_sym;
    same_trans = option_trans m.same m.same_trans;
    same_value = same_is_value m.same m.is_value m.same_value;
    same_means = option_same_means;
    same_canon = option_same_canon m.same m.canon m.same_canon;
    one = option_one;
    canon_means = option_canon_means;
    norm_canon = option_norm_canon;
    norm_norm = option_norm_norm;
    value = option_value;
    own = option_own;
    free = option_free;
  }

  pub option_null_alike : (t : Term) (v : Option T) → is_null t ≡ true → OptionMeans m.means t v → OptionMeans m.means (leaf null) v
  option_null_alike t None k h = refl
  option_null_alike t (Some v) k h = absurd (clash k (never_null t v h))

  pub option_null_canon : (v : Option T) → OptionMeans m.means (leaf null) v → is_null (option_canon m.canon v) ≡ true
  option_null_canon None h = refl
  option_null_canon (Some v) h = absurd (clash refl (never_null (leaf null) v h))
