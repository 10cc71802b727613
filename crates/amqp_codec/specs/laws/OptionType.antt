-- Lemmas of optional values.
use Rattle.std.proofs.Common.{inl, inr, ◌≡◌, ℕ, Bool, true, false, List, Option, Some, None, IfSome, refl, sym, ap, ◌∙◌, subst, ◌≤◌, length, arith}
use Rattle.amqp_model.specs.Term.{null, Term, leaf}
use Rattle.amqp_model.specs.Standing.{Standing, whole}
use Rattle.amqp_model.specs.Text.{form}
use Rattle.amqp_model.specs.Items.{is_null}
use Rattle.amqp_model.specs.laws.Item.{clash}
use Rattle.amqp_model.specs.FieldType.{Norm, normal, unchanged, by_norm}
use Rattle.amqp_model.specs.FieldRules.{option_canon, SameOption}
use Rattle.amqp_decoder.specs.State.{State}
use Rattle.amqp_decoder.specs.OtherSource.{Setting, under, KeepsError}
use Rattle.amqp_decoder.specs.laws.OtherSource.{begin_fault, peeked}
use Rattle.amqp_decoder.specs.Rooms.{HasRoom}
use Rattle.amqp_decoder.specs.Misspelled.{IsMisspelling, NothingStands}
use Rattle.amqp_decoder.proofs.Misspelled.{begin_misspelled}
use Rattle.amqp_decoder.proofs.NothingInside.{nothing_peeked}
use Rattle.amqp_decoder.proofs.Rooms.{room_peeked}
use Rattle.amqp_decoder.proofs.NotOutside.{begin_not_outside}
use Rattle.amqp_decoder.specs.Steps.{IsOutside}
use Rattle.amqp_decoder.specs.Places.{Located}
use Rattle.amqp_codec.specs.NullsAlike.{nulls_alike}
use Rattle.amqp_codec.specs.Faults.{Faults}
use Rattle.amqp_codec.specs.TermType.{TermType, View, view_of, view_in, Agrees, Rewrites, IgnoresStanding, Meant, IsNoShorter}
use Rattle.amqp_codec.specs.laws.PrimitiveTerm.{reads_leaf}
use Rattle.amqp_codec.specs.laws.Null.{nulls_alike-null, is_null-nulls_alike, null_form, null_meant, null_least}
use Rattle.amqp_codec.specs.OptionMeaning.{MeansOption, OptionFault, keep, norm_option, count_option}
use Rattle.amqp_codec.specs.laws.Within.{peek_keeps}

pub option_not_outside : (e : Located) → IsOutside e.error → (f : Faults) (st : State) → OptionFault f.fault st e → ⊥
option_not_outside e out f st (inl h) = begin_not_outside out st h.0
option_not_outside e out f st (inr (c, mid, p, n, h)) = f.not_outside e out mid h

pub option_elsewhere : (f : Faults) (s : Setting) (st : State) (e : Located) → KeepsError s e.error → OptionFault f.fault st e
    → OptionFault f.fault (under s st) e
option_elsewhere f s st e k (inl h) = inl (begin_fault s k h.0, h.1)
option_elsewhere f s st e k (inr (c, mid, p, n, h)) = inr (c, under s mid, peeked s p, n, f.fault_elsewhere s mid e k h)

pub option_misspelled : (f : Faults) (st : State) (e : Located) → HasRoom st → IsMisspelling e.error → OptionFault f.fault st e → NothingStands st
option_misspelled f st e room i (inl h) = begin_misspelled st e.error i h.0
option_misspelled f st e room i (inr (c, mid, p, n, h)) = nothing_peeked st c mid p (f.misspelled mid e (room_peeked st c mid p room) i h)

pub option_within : (f : Faults) (st : State) (e : Located) → OptionFault f.fault st e → e.left ≤ length st.rest
option_within f st e (inl h) = omega (arith, h.1)
option_within f st e (inr (c, mid, p, n, h)) = omega (arith, f.within mid e h, peek_keeps st c mid p)

none_at : {T : Type 0} (n : Norm T) (b : Bool) (canon : T → Term) → normal (norm_option n b canon) None ≡ None
none_at unchanged true canon = refl
none_at unchanged false canon = refl
none_at (by_norm f) b canon = refl

some_at : {T : Type 0} (n : Norm T) (b : Bool) (canon : T → Term) (v : T) → (b ≡ true → is_null (canon v) ≡ false)
    → normal (norm_option n b canon) (Some v) ≡ keep (is_null (canon v)) (normal n v)
some_at unchanged true canon v h = rw (h refl) refl
some_at unchanged false canon v h = refl
some_at (by_norm f) b canon v h = refl

module _ {T : Type 0} (u : TermType T) where
  abbrev pub option_normal : Option T → Option T
  option_normal v = normal (norm_option u.norm u.is_never_null u.canon) v

  pub option_none : option_normal None ≡ None
  option_none = none_at u.norm u.is_never_null u.canon

  pub option_some : (v : T) → option_normal (Some v) ≡ keep (is_null (u.canon v)) (normal u.norm v)
  option_some v = some_at u.norm u.is_never_null u.canon v (λ e. u.never_null e v)

  abbrev pub option_view : Option T → View
  option_view = view_of (λ v. IfSome v u.is_value) (MeansOption u.means) (option_canon u.canon)

  -- what is said of v by u and by its options
  some_agrees : (v w : T) → Agrees (view_in u v) (view_in u w) → Agrees (option_view (Some v)) (option_view (Some w))
  some_agrees v w h = record { value = h.value; means = λ s t m. (m.0, h.means s t m.1); canon = h.canon }

  pub option_agrees : (v w : Option T) → SameOption u.same v w → Agrees (option_view v) (option_view w)
  option_agrees None None h = record { value = λ i. i; means = λ s t m. m; canon = refl }
  option_agrees None (Some w) h = absurd h
  option_agrees (Some v) None h = absurd h
  option_agrees (Some v) (Some w) h = some_agrees v w (u.sameness.agrees v w h)

  pub option_one : (s : Standing) (t : Term) (v w : Option T) → MeansOption u.means s t v → MeansOption u.means s t w
      → SameOption u.same v w
  option_one s t None None h k = tt
  option_one s t None (Some w) h k = clash h k.0
  option_one s t (Some v) None h k = clash k h.0
  option_one s t (Some v) (Some w) h k = u.sameness.one s t v w h.1 k.1

  -- null is alike in the normal value
  null_normal : (v : T) → is_null (u.canon (normal u.norm v)) ≡ is_null (u.canon v)
  null_normal v = sym (is_null-nulls_alike (u.canon (normal u.norm v))) ∙ ap is_null (u.rewrites v).canon ∙ is_null-nulls_alike (u.canon v)

  kept_means : (s : Standing) (t : Term) (v : T) (b : Bool) → is_null (u.canon v) ≡ b → u.means s t (normal u.norm v)
      → MeansOption u.means s t (keep b (normal u.norm v))
  kept_means s t v true e m = sym (u.meant s t (normal u.norm v) m).null_alike ∙ null_normal v ∙ e
  kept_means s t v false e m = (sym (u.meant s t (normal u.norm v) m).null_alike ∙ null_normal v ∙ e, m)

  kept_canon : (v : T) (b : Bool) → is_null (u.canon v) ≡ b
      → nulls_alike (option_canon u.canon (keep b (normal u.norm v))) ≡ nulls_alike (u.canon v)
  kept_canon v true e = sym (nulls_alike-null (u.canon v) e)
  kept_canon v false e = (u.rewrites v).canon

  -- what holds of the normal value, or of none where it is null, holds of the option's
  none_normally : (P : Option T → Type 0) → P None → P (option_normal None)
  none_normally P = subst P (sym option_none)

  some_normally : (P : Option T → Type 0) (v : T) → P (keep (is_null (u.canon v)) (normal u.norm v)) → P (option_normal (Some v))
  some_normally P v = subst P (sym (option_some v))

  pub option_rewrites : (v : Option T) → Rewrites (option_view v) (option_view (option_normal v))
  option_rewrites None = none_normally (λ x. Rewrites (option_view None) (option_view x)) (record {
    valued = λ i. tt;
    reads = λ i f. (leaf null, refl);
    means = λ s t i f c r. ap is_null (reads_leaf null t r);
    canon = refl;
  })
  option_rewrites (Some v) = some_normally (λ x. Rewrites (option_view (Some v)) (option_view x)) v (record {
    valued = (u.rewrites v).valued;
    reads = (u.rewrites v).reads;
    means = λ s t i f c r. kept_means s t v (is_null (u.canon v)) refl ((u.rewrites v).means s t i f c r);
    canon = kept_canon v (is_null (u.canon v)) refl;
  })

  kept_twice : (v : T) (b : Bool) → is_null (u.canon v) ≡ b
      → SameOption u.same (option_normal (keep b (normal u.norm v))) (keep b (normal u.norm v))
  kept_twice v true e = rw option_none tt
  kept_twice v false e = rw (option_some (normal u.norm v), null_normal v, e) (u.norm_norm v)

  pub option_norm_norm : (v : Option T) → SameOption u.same (option_normal (option_normal v)) (option_normal v)
  option_norm_norm None = rw (option_none, option_none) tt
  option_norm_norm (Some v) = rw (option_some v) (kept_twice v (is_null (u.canon v)) refl)

  pub option_own : (s : Standing) (t : Term) (v : Option T) → MeansOption u.means s t v → SameOption u.same (option_normal v) v
  option_own s t None m = rw option_none tt
  option_own s t (Some v) m = rw (option_some v, (u.meant s t v m.1).null_alike, m.0) (u.own s t v m.1)

  pub option_meant : (s : Standing) (t : Term) (v : Option T) → MeansOption u.means s t v
      → Meant s t (IfSome v u.is_value) (option_canon u.canon v) (count_option u.count v)
  option_meant s t None m = null_meant s t m
  option_meant s t (Some v) m = u.meant s t v m.1

  pub option_formed : (s z : Standing) (t r : Term) (v w : Option T) → MeansOption u.means s t v → MeansOption u.means z r w
      → form t ≡ form r → form (option_canon u.canon v) ≡ form (option_canon u.canon w)
  option_formed s z t r None w m n e = sym ((option_meant z r w n).formless (sym e ∙ null_form t m))
  option_formed s z t r (Some v) None m n e = (u.meant s t v m.1).formless (e ∙ null_form r n)
  option_formed s z t r (Some v) (Some w) m n e = u.formed s z t r v w m.1 n.1 e

  some_ignores : (v : T) → IgnoresStanding (view_in u v) (view_in u (normal u.norm v))
      → IgnoresStanding (option_view (Some v)) (option_view (keep (is_null (u.canon v)) (normal u.norm v)))
  some_ignores v h = record {
    plain = h.plain;
    means = λ s z t m. (m.0, h.means s z t m.1);
    canon_means = λ s i f. kept_means s (u.canon v) v (is_null (u.canon v)) refl (h.canon_means s i f);
  }

  pub option_ignores : u.ignores_standing ≡ true → (v : Option T) → IgnoresStanding (option_view v) (option_view (option_normal v))
  option_ignores l None = none_normally (λ x. IgnoresStanding (option_view None) (option_view x))
      (record { plain = tt; means = λ s z t m. m; canon_means = λ s i f. refl })
  option_ignores l (Some v) =
      some_normally (λ x. IgnoresStanding (option_view (Some v)) (option_view x)) v (some_ignores v (u.standing_ignored l v))

  pub option_least : u.is_least ≡ true → (b : List ℕ) (t : Term) (v : Option T) → MeansOption u.means (whole b) t v
      → IsNoShorter b t (option_canon u.canon v)
  option_least l b t None m = λ i n e. null_least b t e
  option_least l b t (Some v) m = u.least l b t v m.1
