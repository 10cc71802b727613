-- The canonical terms of a composite's fields, without the nulls at the end.
use Rattle.std.proofs.Common.{◌≡◌, ℕ, zero, suc, ◌<◌, true, false, [], ◌∷◌, ◌++◌, length, take, refl, sym, ◌∙◌, ap}
use Rattle.std.proofs.Common.{arith}
use Rattle.amqp_model.specs.Term.{null, Term, leaf}
use Rattle.amqp_codec.specs.TermType.{KeepsNoBytes}
use Rattle.amqp_codec.specs.laws.Null.{nulls_alike-null}
use Rattle.amqp_codec.specs.laws.KeptBytes.{nulls_alike-none_kept}
use Rattle.amqp_model.specs.Items.{is_null, before_nulls, without_last_nulls}
use Rattle.amqp_model.specs.Fields.{rules_of, canonical_terms}
use Rattle.amqp_codec.specs.Fields.{Fields, none, field, slots, canon_at}

pub take_all : {V : Type 0} (fs : Fields V) (v : V)
    → take (length (rules_of (slots fs))) (canonical_terms (slots fs) v) ≡ canonical_terms (slots fs) v
take_all none v = refl
take_all (field get f fs) v = ap (λ ts. f.slot.meaning.canon (get v) ∷ ts) (take_all fs v)

pub trim_null : {V : Type 0} (fs : Fields V) (n : ℕ) (v : V) → n < length (rules_of (slots fs)) → is_null (canon_at fs n v) ≡ true →
    without_last_nulls (take (suc n) (canonical_terms (slots fs) v)) ≡ without_last_nulls (take n (canonical_terms (slots fs) v))
trim_null none n v l z = absurd (omega arith)
trim_null (field get f fs) zero v l z = rw z refl
trim_null (field get f fs) (suc n) v l z = ap (before_nulls (f.slot.meaning.canon (get v))) (trim_null fs n v (omega arith) z)

pub trim_value : {V : Type 0} (fs : Fields V) (n : ℕ) (v : V) → n < length (rules_of (slots fs)) → is_null (canon_at fs n v) ≡ false →
    without_last_nulls (take (suc n) (canonical_terms (slots fs) v)) ≡ take (suc n) (canonical_terms (slots fs) v)
trim_value none n v l z = absurd (omega arith)
trim_value (field get f fs) zero v l z = rw z refl
trim_value (field get f none) (suc n) v l z = absurd (omega arith)
trim_value (field get f (field h r fs)) (suc n) v l z =
    ap (before_nulls (f.slot.meaning.canon (get v))) (trim_value (field h r fs) n v (omega arith) z)

pub take_more : {V : Type 0} (fs : Fields V) (n : ℕ) (v : V) → n < length (rules_of (slots fs))
    → take (suc n) (canonical_terms (slots fs) v) ≡ take n (canonical_terms (slots fs) v) ++ canon_at fs n v ∷ []
take_more none n v l = absurd (omega arith)
take_more (field get f fs) zero v l = refl
take_more (field get f fs) (suc n) v l = ap (λ ts. f.slot.meaning.canon (get v) ∷ ts) (take_more fs n v (omega arith))

pub field_keeps_no_bytes : {V : Type 0} (fs : Fields V) (n : ℕ) (v : V) → KeepsNoBytes (canon_at fs n v)
field_keeps_no_bytes none n v = tt
field_keeps_no_bytes (field get f fs) zero v = f.laws.keeps_no_bytes (get v)
field_keeps_no_bytes (field get f fs) (suc n) v = field_keeps_no_bytes fs n v

pub plain_null : (t : Term) → KeepsNoBytes t → is_null t ≡ true → t ≡ leaf null
plain_null t h z = sym (nulls_alike-none_kept t h) ∙ nulls_alike-null t z
