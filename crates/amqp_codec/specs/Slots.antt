-- The fields of a composite, by their rules: the model's slots with the laws that reading and writing need.
use Rattle.std.proofs.Common.{◌≡◌, inl, inr, ℕ, Bool, true, false, cond, List, Option, Some, None, IfSome, refl, arith}
use Rattle.amqp_model.specs.Term.{null, Term, leaf}
use Rattle.amqp_model.specs.Standing.{Standing}
use Rattle.amqp_model.specs.Items.{is_null}
use Rattle.amqp_model.specs.Ranges.{Everywhere, IsValue}
use Rattle.amqp_model.specs.laws.Item.{clash}
use Rattle.amqp_model.specs.FieldType.{Meaning, NeverNull}
use Rattle.amqp_model.specs.FieldRules.{OptionMeans, option_canon, DefaultValue, DefaultMeans, default_canon}
use Rattle.amqp_model.specs.Slot.{Slot}
use Rattle.amqp_model.specs.Slot as slot
use Rattle.amqp_model.specs.laws.Option.{option_meaning}
use Rattle.amqp_model.specs.laws.Default.{default_meaning}
use Rattle.amqp_codec.specs.Faults.{Faults}
use Rattle.amqp_codec.specs.TermType.{TermType, KeepsNoBytes, IsNoShorter}
use Rattle.amqp_codec.specs.laws.PrimitiveTerm.{null_writable}
use Rattle.amqp_codec.specs.laws.Null.{null_least}
use Rattle.amqp_codec.specs.FieldTypes.{anywhere, FieldMeant, FieldLaws, field_type, type_laws, standing_so}

pub record Field (T : Type 0) : Type 1 where
  pub slot : Slot T
  pub laws : FieldLaws slot.meaning
  pub takes_memory : Bool
  -- what a term that isn't null means, standing so, and the faults in reading it
  pub reads : Standing → Term → T → Type 0
  pub faults : Faults
  pub fits : (s : Standing) (t : Term) (v : T) → reads s t v → slot.meaning.means t v
  pub is_read : (s : Standing) (t : Term) (v : T) → is_null t ≡ false → slot.meaning.means t v → reads s t v

abbrev pub mandatory : {T : Type 0} (u : TermType T) → u.is_never_null ≡ true → u.ignores_standing ≡ true → Field T
mandatory u is_never_null ignores_standing = record {
  slot = slot.mandatory (field_type u is_never_null ignores_standing);
  laws = type_laws u is_never_null ignores_standing;
  takes_memory = u.takes_memory;
  reads = u.means;
  faults = u.faults;
  fits = λ s t v m. standing_so u ignores_standing s anywhere t v m;
  is_read = λ s t v n m. standing_so u ignores_standing anywhere s t v m;
}

-- null as the canonical term of a field
null_field : (t : Term) → FieldMeant t (leaf null) 0
null_field t = record { missing = λ n. refl; writable = λ b e. null_writable; nested = omega arith; counted = omega arith }

abbrev pub some_count : {T : Type 0} → (T → ℕ) → Option T → ℕ
some_count count None = 0
some_count count (Some v) = count v

module _ {T : Type 0} (m : Meaning T) (never_null : NeverNull m) (l : FieldLaws m) where
  pub some_valued : (v : Option T) → IfSome v m.is_value → Everywhere IsValue (option_canon m.canon v)
  some_valued None i = tt
  some_valued (Some v) i = l.valued v i

  pub some_keeps_no_bytes : (v : Option T) → KeepsNoBytes (option_canon m.canon v)
  some_keeps_no_bytes None = tt
  some_keeps_no_bytes (Some v) = l.keeps_no_bytes v

  pub some_meant : (t : Term) (v : Option T) → OptionMeans m.means t v → FieldMeant t (option_canon m.canon v) (some_count l.count v)
  some_meant t None h = null_field t
  some_meant t (Some v) h = l.meant t v h

  pub some_least : l.is_least ≡ true → (b : List ℕ) (t : Term) (v : Option T) → OptionMeans m.means t v
      → IsNoShorter b t (option_canon m.canon v)
  some_least y b t None h = λ i n e. null_least b t e
  some_least y b t (Some v) h = l.least y b t v h

  abbrev pub option_laws : FieldLaws (option_meaning m never_null)
  option_laws = record {
    count = some_count l.count;
    is_least = l.is_least;
    valued = some_valued;
    keeps_no_bytes = some_keeps_no_bytes;
    meant = some_meant;
    least = some_least;
  }

-- a value is there, and holds
abbrev pub MeansSome : {T : Type 0} → (T → Type 0) → Option T → Type 0
MeansSome P None = ⊥
MeansSome P (Some v) = P v

module _ {T : Type 0} (u : TermType T) (is_never_null : u.is_never_null ≡ true) (ignores_standing : u.ignores_standing ≡ true) where
  pub some_fits : (s : Standing) (t : Term) (v : Option T) → MeansSome (u.means s t) v → OptionMeans (u.means anywhere) t v
  some_fits s t None m = absurd m
  some_fits s t (Some v) m = standing_so u ignores_standing s anywhere t v m

  pub some_read : (s : Standing) (t : Term) (v : Option T) → is_null t ≡ false → OptionMeans (u.means anywhere) t v
      → MeansSome (u.means s t) v
  some_read s t None n m = clash m n
  some_read s t (Some v) n m = standing_so u ignores_standing anywhere s t v m

abbrev pub optional : {T : Type 0} (u : TermType T) → u.is_never_null ≡ true → u.ignores_standing ≡ true → Field (Option T)
optional u is_never_null ignores_standing =
    let f = field_type u is_never_null ignores_standing in
    record {
      slot = slot.optional f;
      laws = option_laws f.meaning f.never_null (type_laws u is_never_null ignores_standing);
      takes_memory = u.takes_memory;
      reads = λ s t. MeansSome (u.means s t);
      faults = u.faults;
      fits = some_fits u is_never_null ignores_standing;
      is_read = some_read u is_never_null ignores_standing;
    }

module _ {T : Type 0} (m : Meaning T) (never_null : NeverNull m) (l : FieldLaws m) (d : DefaultValue m) where
  abbrev pub other_count : T → ℕ
  other_count v = cond (d.test v) 0 (l.count v)

  -- a property of null and of the canonical term is one of the field's canonical term
  by_test : (P : Bool → Type 0) (b : Bool) → P true → P false → P b
  by_test P true h k = h
  by_test P false h k = k

  pub other_valued : (v : T) → m.is_value v → Everywhere IsValue (default_canon m d v)
  other_valued v i = by_test (λ b. Everywhere IsValue (cond b (leaf null) (m.canon v))) (d.test v) tt (l.valued v i)

  pub other_keeps_no_bytes : (v : T) → KeepsNoBytes (default_canon m d v)
  other_keeps_no_bytes v = by_test (λ b. KeepsNoBytes (cond b (leaf null) (m.canon v))) (d.test v) tt (l.keeps_no_bytes v)

  pub other_meant : (t : Term) (v : T) → DefaultMeans m d t v → FieldMeant t (default_canon m d v) (other_count v)
  other_meant t v (inl h) =
      by_test (λ x. FieldMeant t (cond x (leaf null) (m.canon v)) (cond x 0 (l.count v))) (d.test v) (null_field t) (l.meant t v h)
  other_meant t v (inr h) = rw (d.complete v h.1) (null_field t)

  pub other_least : l.is_least ≡ true → (b : List ℕ) (t : Term) (v : T) → DefaultMeans m d t v → IsNoShorter b t (default_canon m d v)
  other_least y b t v (inl h) =
      by_test (λ x. IsNoShorter b t (cond x (leaf null) (m.canon v))) (d.test v) (λ i n e. null_least b t e) (l.least y b t v h)
  other_least y b t v (inr h) = rw (d.complete v h.1) (λ i n e. null_least b t e)

  abbrev pub default_laws : FieldLaws (default_meaning m never_null d)
  default_laws = record {
    count = other_count;
    is_least = l.is_least;
    valued = other_valued;
    keeps_no_bytes = other_keeps_no_bytes;
    meant = other_meant;
    least = other_least;
  }

pub other_read : {T : Type 0} (u : TermType T) (is_never_null : u.is_never_null ≡ true) (ignores_standing : u.ignores_standing ≡ true)
    (d : DefaultValue (field_type u is_never_null ignores_standing).meaning) (s : Standing) (t : Term) (v : T)
    → is_null t ≡ false → DefaultMeans (field_type u is_never_null ignores_standing).meaning d t v → u.means s t v
other_read u is_never_null ignores_standing d s t v n (inl m) = standing_so u ignores_standing anywhere s t v m
other_read u is_never_null ignores_standing d s t v n (inr m) = absurd (clash m.0 n)

abbrev pub default : {T : Type 0} (u : TermType T) (is_never_null : u.is_never_null ≡ true) (ignores_standing : u.ignores_standing ≡ true)
    → DefaultValue (field_type u is_never_null ignores_standing).meaning → Field T
default u is_never_null ignores_standing d =
    let f = field_type u is_never_null ignores_standing in
    record {
      slot = slot.default f d;
      laws = default_laws f.meaning f.never_null (type_laws u is_never_null ignores_standing) d;
      takes_memory = u.takes_memory;
      reads = u.means;
      faults = u.faults;
      fits = λ s t v m. inl (standing_so u ignores_standing s anywhere t v m);
      is_read = other_read u is_never_null ignores_standing d;
    }
