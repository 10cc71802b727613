-- Lemmas of values of one type or of another, whose terms have other forms.
use Rattle.std.proofs.Common.{◌≡◌, ◌⊎◌, inl, inr, ℕ, Bool, true, false, ◌&&◌, List, refl, sym, ap, ◌∙◌, subst, ◌≤◌, length, arith}
use Rattle.std.specs.Cmp.{first_so, second_so}
use Rattle.amqp_model.specs.Term.{Term}
use Rattle.amqp_model.specs.Standing.{Standing, whole}
use Rattle.amqp_model.specs.Text.{form}
use Rattle.amqp_model.specs.Items.{is_null}
use Rattle.amqp_model.specs.FieldType.{Norm, normal, unchanged, by_norm}
use Rattle.amqp_decoder.specs.State.{State}
use Rattle.amqp_decoder.specs.Reading.{PeeksCode}
use Rattle.amqp_decoder.specs.Rooms.{HasRoom}
use Rattle.amqp_decoder.specs.Misspelled.{IsMisspelling, NothingStands}
use Rattle.amqp_decoder.proofs.Misspelled.{begin_misspelled}
use Rattle.amqp_decoder.proofs.NothingInside.{nothing_peeked}
use Rattle.amqp_decoder.proofs.Rooms.{room_peeked}
use Rattle.amqp_decoder.specs.OtherSource.{Setting, under, KeepsError}
use Rattle.amqp_decoder.specs.laws.OtherSource.{begin_fault, peeked}
use Rattle.amqp_decoder.proofs.NotOutside.{begin_not_outside}
use Rattle.amqp_decoder.proofs.ReadPrimitives.{begun_same, fault_not_begun}
use Rattle.amqp_model.specs.laws.Item.{clash}
use Rattle.amqp_decoder.specs.Steps.{IsOutside}
use Rattle.amqp_decoder.specs.Places.{Located}
use Rattle.amqp_codec.specs.Faults.{Faults}
use Rattle.amqp_codec.specs.TermType.{TermType, View, view_of, Agrees, Rewrites, IgnoresStanding, Meant, IsNoShorter}
use Rattle.amqp_codec.specs.EitherMeaning.{either, IsEither, SameEither, each_normal, norm_either, FormsApart, EitherFault, no_value}
use Rattle.amqp_codec.specs.EitherMeaning.{in_first, in_second}
use Rattle.amqp_codec.specs.laws.Within.{peek_keeps}

either_normal : {A B : Type 0} (m : Norm A) (n : Norm B) (v : A ⊎ B) → normal (norm_either m n) v ≡ each_normal m n v
either_normal unchanged unchanged (inl a) = refl
either_normal unchanged unchanged (inr b) = refl
either_normal unchanged (by_norm g) v = refl
either_normal (by_norm f) unchanged v = refl
either_normal (by_norm f) (by_norm g) v = refl

module _ {A B : Type 0} (u : TermType A) (w : TermType B) where
  abbrev MeansEither : Standing → Term → A ⊎ B → Type 0
  MeansEither s t = IsEither (u.means s t) (w.means s t)

  abbrev either_canon : A ⊎ B → Term
  either_canon = either u.canon w.canon

  abbrev either_norm : Norm (A ⊎ B)
  either_norm = norm_either u.norm w.norm

  abbrev either_same : A ⊎ B → A ⊎ B → Type 0
  either_same = SameEither u.same w.same

  abbrev either_view : A ⊎ B → View
  either_view = view_of (IsEither u.is_value w.is_value) MeansEither either_canon

  pub either_refl : (v : A ⊎ B) → either_same v v
  either_refl (inl a) = u.sameness.refl a
  either_refl (inr b) = w.sameness.refl b

  pub either_sym : (v x : A ⊎ B) → either_same v x → either_same x v
  either_sym (inl a) (inl c) h = u.sameness.sym a c h
  either_sym (inr b) (inr d) h = w.sameness.sym b d h
  either_sym (inl a) (inr d) h = h
  either_sym (inr b) (inl c) h = h

  pub either_trans : (v x y : A ⊎ B) → either_same v x → either_same x y → either_same v y
  either_trans (inl a) (inl c) (inl e) h k = u.sameness.trans a c e h k
  either_trans (inr b) (inr d) (inr f) h k = w.sameness.trans b d f h k
  either_trans (inl a) (inr d) y h k = absurd h
  either_trans (inr b) (inl c) y h k = absurd h
  either_trans (inl a) (inl c) (inr f) h k = k
  either_trans (inr b) (inr d) (inl e) h k = k

  pub either_agrees : (v x : A ⊎ B) → either_same v x → Agrees (either_view v) (either_view x)
  either_agrees (inl a) (inl c) h = u.sameness.agrees a c h
  either_agrees (inr b) (inr d) h = w.sameness.agrees b d h
  either_agrees (inl a) (inr d) h = absurd h
  either_agrees (inr b) (inl c) h = absurd h

  pub either_one : FormsApart u w → (s : Standing) (t : Term) (v x : A ⊎ B) → MeansEither s t v → MeansEither s t x → either_same v x
  either_one apart s t (inl a) (inl c) h k = u.sameness.one s t a c h k
  either_one apart s t (inr b) (inr d) h k = w.sameness.one s t b d h k
  either_one apart s t (inl a) (inr d) h k = apart s s t t a d h k refl
  either_one apart s t (inr b) (inl c) h k = apart s s t t c b k h refl

  -- what holds of each one's normal value holds of the sum's
  either_normally : (P : A ⊎ B → Type 0) (v : A ⊎ B) → P (each_normal u.norm w.norm v) → P (normal either_norm v)
  either_normally P v = subst P (sym (either_normal u.norm w.norm v))

  each_rewrites : (v : A ⊎ B) → Rewrites (either_view v) (either_view (each_normal u.norm w.norm v))
  each_rewrites (inl a) = u.rewrites a
  each_rewrites (inr b) = w.rewrites b

  pub either_rewrites : (v : A ⊎ B) → Rewrites (either_view v) (either_view (normal either_norm v))
  either_rewrites v = either_normally (λ x. Rewrites (either_view v) (either_view x)) v (each_rewrites v)

  pub either_norm_norm : (v : A ⊎ B) → either_same (normal either_norm (normal either_norm v)) (normal either_norm v)
  either_norm_norm (inl a) = rw (either_normal u.norm w.norm (inl a), either_normal u.norm w.norm (inl (normal u.norm a))) (u.norm_norm a)
  either_norm_norm (inr b) = rw (either_normal u.norm w.norm (inr b), either_normal u.norm w.norm (inr (normal w.norm b))) (w.norm_norm b)

  pub either_meant : (s : Standing) (t : Term) (v : A ⊎ B) → MeansEither s t v
      → Meant s t (either_view v).is_value (either_canon v) (either u.count w.count v)
  either_meant s t (inl a) = u.meant s t a
  either_meant s t (inr b) = w.meant s t b

  pub either_own : (s : Standing) (t : Term) (v : A ⊎ B) → MeansEither s t v → either_same (normal either_norm v) v
  either_own s t (inl a) m = rw (either_normal u.norm w.norm (inl a)) (u.own s t a m)
  either_own s t (inr b) m = rw (either_normal u.norm w.norm (inr b)) (w.own s t b m)

  pub either_never_null : (u.is_never_null && w.is_never_null) ≡ true → (v : A ⊎ B) → is_null (either_canon v) ≡ false
  either_never_null l (inl a) = u.never_null (first_so u.is_never_null w.is_never_null l) a
  either_never_null l (inr b) = w.never_null (second_so u.is_never_null w.is_never_null l) b

  pub either_formed : FormsApart u w → (s z : Standing) (t r : Term) (v x : A ⊎ B) → MeansEither s t v → MeansEither z r x
      → form t ≡ form r → form (either_canon v) ≡ form (either_canon x)
  either_formed apart s z t r (inl a) (inl c) h k e = u.formed s z t r a c h k e
  either_formed apart s z t r (inr b) (inr d) h k e = w.formed s z t r b d h k e
  either_formed apart s z t r (inl a) (inr d) h k e = absurd (apart s z t r a d h k e)
  either_formed apart s z t r (inr b) (inl c) h k e = absurd (apart z s r t c b k h (sym e))

  each_ignores : (u.ignores_standing && w.ignores_standing) ≡ true → (v : A ⊎ B)
      → IgnoresStanding (either_view v) (either_view (each_normal u.norm w.norm v))
  each_ignores l (inl a) = u.standing_ignored (first_so u.ignores_standing w.ignores_standing l) a
  each_ignores l (inr b) = w.standing_ignored (second_so u.ignores_standing w.ignores_standing l) b

  pub either_ignores : (u.ignores_standing && w.ignores_standing) ≡ true → (v : A ⊎ B)
      → IgnoresStanding (either_view v) (either_view (normal either_norm v))
  either_ignores l v = either_normally (λ x. IgnoresStanding (either_view v) (either_view x)) v (each_ignores l v)

  pub either_least : (u.is_least && w.is_least) ≡ true → (b : List ℕ) (t : Term) (v : A ⊎ B) → MeansEither (whole b) t v
      → IsNoShorter b t (either_canon v)
  either_least l b t (inl a) = u.least (first_so u.is_least w.is_least l) b t a
  either_least l b t (inr x) = w.least (second_so u.is_least w.is_least l) b t x

module _ (is_first : ℕ → Bool) (f g : Faults) where
  pub either_not_outside : {e : Located} → IsOutside e.error → (st : State) → EitherFault is_first f g st e → ⊥
  either_not_outside out st (no_value h) = begin_not_outside out st h.0
  either_not_outside {e} out st (in_first {c} {mid} p is h) = f.not_outside e out mid h
  either_not_outside {e} out st (in_second {c} {mid} p is h) = g.not_outside e out mid h

  pub either_elsewhere : (s : Setting) (st : State) (e : Located) → KeepsError s e.error → EitherFault is_first f g st e
      → EitherFault is_first f g (under s st) e
  either_elsewhere s st e k (no_value h) = no_value (begin_fault s k h.0, h.1)
  either_elsewhere s st e k (in_first {c} {mid} p is h) = in_first (peeked s p) is (f.fault_elsewhere s mid e k h)
  either_elsewhere s st e k (in_second {c} {mid} p is h) = in_second (peeked s p) is (g.fault_elsewhere s mid e k h)

  pub either_misspelled : (st : State) (e : Located) → HasRoom st → IsMisspelling e.error → EitherFault is_first f g st e → NothingStands st
  either_misspelled st e room i (no_value h) = begin_misspelled st e.error i h.0
  either_misspelled st e room i (in_first {c} {mid} p is h) =
      nothing_peeked st c mid p (f.misspelled mid e (room_peeked st c mid p room) i h)
  either_misspelled st e room i (in_second {c} {mid} p is h) =
      nothing_peeked st c mid p (g.misspelled mid e (room_peeked st c mid p room) i h)

  pub either_within : (st : State) (e : Located) → EitherFault is_first f g st e → e.left ≤ length st.rest
  either_within st e (no_value h) = omega (arith, h.1)
  either_within st e (in_first {c} {mid} p is h) = omega (arith, f.within mid e h, peek_keeps st c mid p)
  either_within st e (in_second {c} {mid} p is h) = omega (arith, g.within mid e h, peek_keeps st c mid p)

  -- where a code was looked at, a fault is of the type that it tells, and of no other
  pub first_fault : (st mid : State) (c : ℕ) (e : Located) → PeeksCode st c mid → is_first c ≡ true → EitherFault is_first f g st e
      → f.fault mid e
  first_fault st mid c e p is (no_value h) = absurd (fault_not_begun st e.error c p.after h.0 p.begun)
  first_fault st mid c e p is (in_first {c = d} {mid = seen} q k h) = subst (λ (x : State). f.fault x e) (q.kept ∙ sym p.kept) h
  first_fault st mid c e p is (in_second {c = d} {mid = seen} q k h) =
      absurd (clash (ap is_first (sym (begun_same st c d p.after q.after p.begun q.begun).0) ∙ is) k)

  pub second_fault : (st mid : State) (c : ℕ) (e : Located) → PeeksCode st c mid → is_first c ≡ false → EitherFault is_first f g st e
      → g.fault mid e
  second_fault st mid c e p is (no_value h) = absurd (fault_not_begun st e.error c p.after h.0 p.begun)
  second_fault st mid c e p is (in_first {c = d} {mid = seen} q k h) =
      absurd (clash k (ap is_first (sym (begun_same st c d p.after q.after p.begun q.begun).0) ∙ is))
  second_fault st mid c e p is (in_second {c = d} {mid = seen} q k h) = subst (λ (x : State). g.fault x e) (q.kept ∙ sym p.kept) h
