-- Types that are read and written as another: boxes, newtypes, texts by their bytes.
use Rattle.std.proofs.Common.{◌≡◌, true, refl, subst, sym}
use Rattle.std.specs.Prelude.{String, string_bytes}
use Rattle.std.specs.declared.boxed.Box.{Box}
use Rattle.std.specs.declared.rc.Rc.{Rc}
use Rattle.amqp_model.specs.FieldType.{Norm, normal, unchanged, by_norm}
use Rattle.amqp_wire.specs.declared.symbol.Symbol.{Symbol}
use Rattle.amqp_codec.specs.TermType.{TermType, Sameness, Rewrites, IgnoresStanding, view_in}
use Rattle.amqp_codec.specs.PrimitiveTypes.{string_bytes_type, symbol_bytes_type}

module _ {V T : Type 0} (u : TermType T) (to : V → T) (n : Norm V) (is : (v : V) → to (normal n v) ≡ normal u.norm (to v)) where
  -- what holds of the normal value there holds of it here
  pub via_normal : (P : T → Type 0) (v : V) → P (normal u.norm (to v)) → P (to (normal n v))
  via_normal P v = subst P (sym (is v))

  pub via_norm_norm : (v : V) → u.same (to (normal n (normal n v))) (to (normal n v))
  via_norm_norm v = rw (is (normal n v), is v) (u.norm_norm (to v))

  pub via_sameness : Sameness (λ v w. u.same (to v) (to w)) (λ v. view_in u (to v))
  via_sameness = record {
    refl = λ v. u.sameness.refl (to v);
    sym = λ v w. u.sameness.sym (to v) (to w);
    trans = λ v w x. u.sameness.trans (to v) (to w) (to x);
    agrees = λ v w. u.sameness.agrees (to v) (to w);
    one = λ s t v w. u.sameness.one s t (to v) (to w);
  }

-- A value of V is as `to` says.
abbrev pub via : {V T : Type 0} (u : TermType T) (to : V → T) (n : Norm V) → ((v : V) → to (normal n v) ≡ normal u.norm (to v))
    → TermType V
via u to n is = record {
  is_value = λ v. u.is_value (to v);
  means = λ s t v. u.means s t (to v);
  faults = u.faults;
  canon = λ v. u.canon (to v);
  norm = n;
  same = λ v w. u.same (to v) (to w);
  count = λ v. u.count (to v);
  is_never_null = u.is_never_null;
  ignores_standing = u.ignores_standing;
  takes_memory = u.takes_memory;
  is_least = u.is_least;
  sameness = via_sameness u to n is;
  rewrites = λ v. via_normal u to n is (λ x. Rewrites (view_in u (to v)) (view_in u x)) v (u.rewrites (to v));
  meant = λ s t v. u.meant s t (to v);
  own = λ s t v m. via_normal u to n is (λ x. u.same x (to v)) v (u.own s t (to v) m);
  norm_norm = via_norm_norm u to n is;
  formed = λ s z t r v w. u.formed s z t r (to v) (to w);
  never_null = λ l v. u.never_null l (to v);
  standing_ignored = λ l v. via_normal u to n is (λ x. IgnoresStanding (view_in u (to v)) (view_in u x)) v (u.standing_ignored l (to v));
  least = λ l b t v. u.least l b t (to v);
}

-- A value of W holds one of T, which can be replaced.
pub record Holds (W T : Type 0) : Type 0 where
  pub get : W → T
  pub put : T → W → W
  pub is_put : (v : T) (w : W) → get (put v w) ≡ v

abbrev pub norm_held : {W T : Type 0} → Holds W T → Norm T → Norm W
norm_held h unchanged = unchanged
norm_held h (by_norm f) = by_norm (λ w. h.put (f (h.get w)) w)

pub held_normal : {W T : Type 0} (h : Holds W T) (n : Norm T) (w : W) → h.get (normal (norm_held h n) w) ≡ normal n (h.get w)
held_normal h unchanged w = refl
held_normal h (by_norm f) w = h.is_put (f (h.get w)) w

-- What holds a value is as the value, and takes memory.
abbrev pub held : {W T : Type 0} → Holds W T → TermType T → TermType W
held h u = record (via u h.get (norm_held h u.norm) (held_normal h u.norm)) { takes_memory = true }

abbrev pub in_box : {T Z : Type 0} → Holds (Box T Z) T
in_box = record { get = λ b. b.value; put = λ v b. record b { value = v }; is_put = λ v b. refl }

abbrev pub boxed : {T Z : Type 0} → TermType T → TermType (Box T Z)
boxed = held in_box

-- a value that several own
abbrev pub in_rc : {T Z : Type 0} → Holds (Rc T Z) T
in_rc = record { get = λ r. r.value; put = λ v r. record r { value = v }; is_put = λ v r. refl }

abbrev pub reference_counted : {T Z : Type 0} → TermType T → TermType (Rc T Z)
reference_counted = held in_rc

-- Part 1, section 1.6.20
abbrev pub string_type : {Z : Type 0} → TermType (String Z)
string_type = via string_bytes_type string_bytes unchanged (λ v. refl)

-- Part 1, section 1.6.21
abbrev pub symbol_type : TermType Symbol
symbol_type = via symbol_bytes_type (λ v. string_bytes v.0) unchanged (λ v. refl)
