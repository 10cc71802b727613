-- What the laws of a type say of bytes.
use Rattle.std.proofs.Common.{◌≡◌, inl, inr, ℕ, ◌≤◌, true, List, [], ◌++◌, length, refl, ap, ◌∙◌}
use Rattle.std.proofs.Common.{subst, arith, lt_of_not-le, le_of_suc-le-suc}
use Rattle.amqp_model.specs.Term.{Refusal, depth, too_large, lazy_in_array, Term}
use Rattle.amqp_model.specs.Standing.{whole}
use Rattle.amqp_model.specs.Text.{Alone, text}
use Rattle.amqp_model.specs.Measures.{nest}
use Rattle.amqp_model.specs.Ranges.{Everywhere, IsNoArray, IsBytes}
use Rattle.amqp_model.specs.Refusals.{Refuses}
use Rattle.amqp_model.specs.Kept.{ExpandsTo}
use Rattle.amqp_model.specs.FieldType.{normal}
use Rattle.amqp_model.proofs.Barred.{unrefused_free}
use Rattle.amqp_model.proofs.Count.{nodes_bounded}
use Rattle.amqp_model.proofs.Unique.{one_front, one_term}
use Rattle.amqp_model.proofs.Unrefused.{unrefused_spells}
use Rattle.amqp_codec.specs.NullsAlike.{nulls_alike}
use Rattle.amqp_codec.specs.TermType.{TermType, IsUnrefused}
use Rattle.amqp_codec.specs.laws.NullText.{NoneKept, alike_texts}
use Rattle.amqp_codec.specs.Spelled.{IsSpelled, written, IsWritable}

module _ {T : Type 0} (u : TermType T) where
  -- two fronts of one input that spell values spell one value
  pub one_value : (b c x y : List ℕ) (v w : T) → IsSpelled u b v → IsSpelled u c w → b ++ x ≡ c ++ y → u.same v w × (b ≡ c)
  one_value b c x y v w h k e =
      let f = one_front b c x y h.term k.term h.spelled k.spelled e in
      let t = one_term b c x y h.term k.term h.spelled k.spelled e in
      let m : u.means (whole c) k.term v = subst (λ s. u.means (whole s) k.term v) f (subst (λ z. u.means (whole b) z v) t h.meant) in
      (u.sameness.one (whole c) k.term v w m k.meant, f)

  -- only its size refuses what was spelled
  pub spelled_writable : (b : List ℕ) (v : T) (r : Refusal) → IsSpelled u b v → Refuses r (u.canon v) → r ≡ too_large
  unfolding Refuses
  spelled_writable b v r h (inl i) = (u.meant (whole b) h.term v h.meant).writable h.spelled r i
  spelled_writable b v r h (inr (e, (t, i, l))) = absurd (omega (arith, l, h.nested, (u.meant (whole b) h.term v h.meant).nested t i))

  unrefused_nested : (v : T) (t : Term) → IsUnrefused (u.canon v) → ExpandsTo (u.canon v) t → nest t ≤ 128
  unfolding Refuses
  unrefused_nested v t f r = le_of_suc-le-suc (lt_of_not-le (λ l. f depth (inr (refl, (t, r, l)))))

  -- the text of a value that nothing refuses spells it again, normalised
  pub spelled_again : (v : T) → u.is_value v → IsWritable u v → IsSpelled u (written u v) (normal u.norm v)
  spelled_again v i f =
      let (t, r) = (u.rewrites v).reads i (unrefused_free (u.canon v) f) in
      record {
        term = t;
        spelled = unrefused_spells (u.canon v) t f ((u.rewrites v).valued i) r;
        nested = unrefused_nested v t f r;
        meant = (u.rewrites v).means (whole (written u v)) t i f refl r;
      }

  pub spelled_value : (b : List ℕ) (v : T) → IsSpelled u b v → u.is_value v
  spelled_value b v h = (u.meant (whole b) h.term v h.meant).value

  pub spelled_own : (b : List ℕ) (v : T) → IsSpelled u b v → u.same (normal u.norm v) v
  spelled_own b v h = u.own (whole b) h.term v h.meant

  -- the text of what was spelled spells the same value
  pub spelled_as_itself : (b : List ℕ) (v : T) → IsSpelled u b v → IsWritable u v → IsSpelled u (written u v) v
  spelled_as_itself b v h f =
      let k = spelled_again v (spelled_value b v h) f in
      record {
        term = k.term;
        spelled = k.spelled;
        nested = k.nested;
        meant = (u.sameness.agrees (normal u.norm v) v (spelled_own b v h)).means (whole (written u v)) k.term k.meant;
      }

  none_kept : (b : List ℕ) (v : T) → IsSpelled u b v → NoneKept (u.canon v)
  none_kept b v h i = let e = (u.meant (whole b) h.term v h.meant).writable h.spelled lazy_in_array i in cc

  -- one text for all spellings
  pub same_text : (v w : T) → u.same v w → written u v ≡ written u w
  same_text v w s = ap (λ t. text t Alone) (u.sameness.agrees v w s).canon

  -- what a text spells is written as that text
  pub text_unchanged : (v w : T) → u.is_value v → IsWritable u v → IsSpelled u (written u v) w → written u w ≡ written u v
  unfolding Refuses
  text_unchanged v w i f h =
      let (s, _) = one_value (written u v) (written u v) [] [] w (normal u.norm v) h (spelled_again v i f) refl in
      alike_texts (u.canon w) (u.canon v) (none_kept (written u v) w h) (λ k. f lazy_in_array (inl k))
      (ap nulls_alike (u.sameness.agrees w (normal u.norm v) s).canon ∙ (u.rewrites v).canon)

  -- different values have different texts
  pub apart : (b c : List ℕ) (v w : T) → IsSpelled u b v → IsSpelled u c w → IsWritable u v → IsWritable u w
      → written u v ≡ written u w → u.same v w
  apart b c v w h k f g e =
      (one_value (written u v) (written u w) [] [] v w (spelled_as_itself b v h f) (spelled_as_itself c w k g) (ap (λ l. l ++ []) e)).0

  pub text_least : u.is_least ≡ true → (b : List ℕ) (v : T) → IsBytes b → Everywhere IsNoArray (u.canon v) → IsSpelled u b v
      → length (written u v) ≤ length b
  text_least l b v i n h = u.least l b h.term v h.meant i n h.spelled

  pub count_bounded : (b : List ℕ) (v : T) → IsSpelled u b v → u.count v ≤ length b
  count_bounded b v h = omega (arith, nodes_bounded b h.term h.spelled, (u.meant (whole b) h.term v h.meant).counted)
