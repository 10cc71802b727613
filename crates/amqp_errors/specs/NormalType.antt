-- Types some values of which are written alike: one of them is the normal one, which is read.
use Rattle.std.proofs.Common.{◌≡◌, Bool, true, refl, sym, ◌∙◌}
use Rattle.amqp_model.specs.FieldType.{normal, by_norm}
use Rattle.amqp_codec.specs.TermType.{TermType, Sameness, Rewrites, IgnoresStanding, View, view_of, view_in}
use Rattle.amqp_codec.specs.Wrappers.{via_normal}

module _ {V T : Type 0} (u : TermType T) (to : V → T) (class : V → Bool) (IsNormal : V → Type 0) where
  -- The values that are written alike are told apart by their classes. To normalise keeps what is written; of two that are
  -- written alike and normal, both are of one class; and to be normal is said of the class and of what is written.
  pub record Normalises (f : V → V) : Type 0 where
    pub keeps : (v : V) → to (f v) ≡ normal u.norm (to v)
    pub is_normal : (v : V) → IsNormal (f v)
    pub one_class : (v w : V) → u.same (to v) (to w) → IsNormal v → IsNormal w → class v ≡ class w
    pub respects : (v w : V) → u.same (to v) (to w) → class v ≡ class w → IsNormal v → IsNormal w

  abbrev pub SameClass : V → V → Type 0
  SameClass v w = u.same (to v) (to w) × (class v ≡ class w)

  abbrev pub normal_view : V → View
  normal_view = view_of (λ v. u.is_value (to v)) (λ s t v. u.means s t (to v) × IsNormal v) (λ v. u.canon (to v))

  module _ {f : V → V} (laws : Normalises f) where
    pub class_sameness : Sameness SameClass normal_view
    class_sameness = record {
      refl = λ v. (u.sameness.refl (to v), refl);
      sym = λ v w h. (u.sameness.sym (to v) (to w) h.0, sym h.1);
      trans = λ v w x h k. (u.sameness.trans (to v) (to w) (to x) h.0 k.0, h.1 ∙ k.1);
      agrees = λ v w h.
          let a = u.sameness.agrees (to v) (to w) h.0 in
          record { value = a.value; means = λ s t m. (a.means s t m.0, laws.respects v w h.0 h.1 m.1); canon = a.canon };
      one = λ s t v w m n. let e = u.sameness.one s t (to v) (to w) m.0 n.0 in (e, laws.one_class v w e m.1 n.1);
    }

    -- what is the same as the normal value there is so here
    pub class_normal : (v w : V) → u.same (normal u.norm (to v)) (to w) → IsNormal w → SameClass (f v) w
    class_normal v w e n =
        let h = via_normal u to (by_norm f) laws.keeps (λ x. u.same x (to w)) v e in (h, laws.one_class (f v) w h (laws.is_normal v) n)

    pub class_rewrites : (v : V) → Rewrites (normal_view v) (normal_view (f v))
    class_rewrites v =
        let r = via_normal u to (by_norm f) laws.keeps (λ x. Rewrites (view_in u (to v)) (view_in u x)) v (u.rewrites (to v)) in
        record {
          valued = r.valued;
          reads = r.reads;
          means = λ s t i n c x. (r.means s t i n c x, laws.is_normal v);
          canon = r.canon;
        }

    pub class_norm_norm : (v : V) → SameClass (f (f v)) (f v)
    class_norm_norm v =
        class_normal (f v) (f v) (rw (laws.keeps v) (u.norm_norm (to v))) (laws.is_normal v)

    pub class_ignores : u.ignores_standing ≡ true → (v : V) → IgnoresStanding (normal_view v) (normal_view (f v))
    class_ignores l v =
        let g = via_normal u to (by_norm f) laws.keeps (λ x. IgnoresStanding (view_in u (to v)) (view_in u x)) v
        (u.standing_ignored l (to v)) in
        record {
          plain = g.plain;
          means = λ s z t m. (g.means s z t m.0, m.1);
          canon_means = λ s i n. (g.canon_means s i n, laws.is_normal v);
        }

    -- A value is written as `to` says, and read if it is normal.
    abbrev pub normal_type : TermType V
    normal_type = record {
      is_value = λ v. u.is_value (to v);
      means = λ s t v. u.means s t (to v) × IsNormal v;
      faults = u.faults;
      canon = λ v. u.canon (to v);
      norm = by_norm f;
      same = SameClass;
      count = λ v. u.count (to v);
      is_never_null = u.is_never_null;
      ignores_standing = u.ignores_standing;
      takes_memory = u.takes_memory;
      is_least = u.is_least;
      sameness = class_sameness;
      rewrites = class_rewrites;
      meant = λ s t v m. u.meant s t (to v) m.0;
      own = λ s t v m. class_normal v v (u.own s t (to v) m.0) m.1;
      norm_norm = class_norm_norm;
      formed = λ s z t r v w m n. u.formed s z t r (to v) (to w) m.0 n.0;
      never_null = λ l v. u.never_null l (to v);
      standing_ignored = class_ignores;
      least = λ l b t v m. u.least l b t (to v) m.0;
    }
