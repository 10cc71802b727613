-- Facts about null.
use Rattle.std.proofs.Common.{◌≡◌, ℕ, ◌≤◌, Bool, true, false, cond, eqb, List, [], ◌∷◌, None, length, refl, sym, ap, subst, arith}
use Rattle.amqp_model.specs.Term.{Primitive, null, Term, leaf, container, described, kept, barred}
use Rattle.amqp_model.specs.Spelling.{IsSpelling}
use Rattle.amqp_model.specs.Standing.{Standing}
use Rattle.amqp_model.specs.Text.{Alone, text, form, primitive_form}
use Rattle.amqp_model.specs.Measures.{nodes}
use Rattle.amqp_model.specs.Items.{is_null, is_null_primitive}
use Rattle.amqp_model.specs.laws.Item.{clash}
use Rattle.amqp_model.proofs.Lengths.{spelling_length}
use Rattle.amqp_codec.specs.laws.PrimitiveTerm.{reads_leaf, null_writable}
use Rattle.amqp_codec.specs.TermType.{IsLeaf, Meant}
use Rattle.amqp_codec.specs.NullsAlike.{nulls_alike, kept_null_alike}

pub null_primitive : (p : Primitive) → is_null_primitive p ≡ true → p ≡ null
null_primitive null h = refl
null_primitive p h = cc

kept_null_alike_at : (b : ℕ) → eqb b 0x40 ≡ true → kept_null_alike (b ∷ []) ≡ leaf null
kept_null_alike_at b h = rw h refl

-- what is null is null's canonical text
pub nulls_alike-null : (t : Term) → is_null t ≡ true → nulls_alike t ≡ leaf null
nulls_alike-null (leaf p) h = ap leaf (null_primitive p h)
nulls_alike-null (container k ts) h = absurd (clash h refl)
nulls_alike-null (described d t) h = absurd (clash h refl)
nulls_alike-null (kept []) h = absurd (clash h refl)
nulls_alike-null (kept (b ∷ [])) h = kept_null_alike_at b h
nulls_alike-null (kept (b ∷ c ∷ bs)) h = absurd (clash h refl)
nulls_alike-null (barred r) h = absurd (clash h refl)

null_kept : (b : ℕ) (test : Bool) → eqb b 0x40 ≡ test → is_null (cond test (leaf null) (kept (b ∷ []))) ≡ test
null_kept b true h = refl
null_kept b false h = h

pub is_null-nulls_alike : (t : Term) → is_null (nulls_alike t) ≡ is_null t
is_null-nulls_alike (leaf p) = refl
is_null-nulls_alike (container k ts) = refl
is_null-nulls_alike (described d t) = refl
is_null-nulls_alike (kept []) = refl
is_null-nulls_alike (kept (b ∷ [])) = null_kept b (eqb b 0x40) refl
is_null-nulls_alike (kept (b ∷ c ∷ bs)) = refl
is_null-nulls_alike (barred r) = refl

pub null_form : (t : Term) → is_null t ≡ true → form t ≡ None
null_form (leaf p) h = ap primitive_form (null_primitive p h)
null_form (container k ts) h = absurd (clash h refl)
null_form (described d t) h = absurd (clash h refl)
null_form (kept b) h = refl
null_form (barred r) h = absurd (clash h refl)

pub null_nodes : (t : Term) → is_null t ≡ true → 1 ≤ nodes t
null_nodes (leaf p) h = omega arith
null_nodes (container k ts) h = absurd (clash h refl)
null_nodes (described d t) h = absurd (clash h refl)
null_nodes (kept b) h = omega arith
null_nodes (barred r) h = omega arith

-- null means none of an optional value
pub null_meant : (s : Standing) (t : Term) → is_null t ≡ true → Meant s t (Unit {0}) (leaf null) 1
null_meant s t m = record {
  value = tt;
  free = λ r h. h;
  writable = λ h. null_writable;
  bare_data = λ p h. h;
  null_alike = sym m;
  core_null = λ e. null_form t m;
  formless = λ e. refl;
  nested = λ u r. rw (reads_leaf null u r) (omega arith);
  leaf_alike = λ u r i. subst IsLeaf (sym (reads_leaf null u r)) tt;
  counted = null_nodes t m;
}

-- no term is spelled by fewer bytes than null
pub null_least : (b : List ℕ) (t : Term) → IsSpelling b t → length (text (leaf null) Alone) ≤ length b
unfolding text
null_least b t e = spelling_length b t e
