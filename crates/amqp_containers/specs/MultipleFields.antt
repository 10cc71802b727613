-- The rules of fields of several values (Part 1, section 1.4), which are held in an array.
use Rattle.std.proofs.Common.{◌≡◌, ℕ, true, false, List, [], ◌∷◌, Option, Some, None, refl, sym, ap, ◌∙◌, subst, arith}
use Rattle.amqp_model.specs.Term.{null, empty_multiple, Term, leaf, barred}
use Rattle.amqp_model.specs.FieldType.{normal, Meaning}
use Rattle.amqp_model.specs.Standing.{Standing}
use Rattle.amqp_model.specs.Ranges.{Everywhere, IsValue}
use Rattle.amqp_model.specs.Items.{is_null, several, IsFree}
use Rattle.amqp_model.specs.FieldRules.{ArrayOf, SomeMean}
use Rattle.amqp_model.specs.Slot.{Slot}
use Rattle.amqp_model.specs.Slot as slot
use Rattle.amqp_model.specs.laws.Multiple.{multiple_meaning, mandatory_multiple_meaning}
use Rattle.amqp_codec.specs.TermType.{TermType, KeepsNoBytes, IsNoShorter}
use Rattle.amqp_codec.specs.laws.PrimitiveTerm.{null_writable}
use Rattle.amqp_codec.specs.laws.Null.{null_least}
use Rattle.amqp_codec.specs.FieldTypes.{anywhere, FieldMeant, FieldLaws, meaning_of, field_type}
use Rattle.amqp_codec.specs.Each.{count_all}
use Rattle.amqp_codec.specs.laws.Each.{items_normal}
use Rattle.amqp_codec.specs.Slots.{Field}
use Rattle.amqp_containers.specs.declared.array.Array.{Array}
use Rattle.amqp_containers.specs.ArrayType.{norm_array, array_normal}
use Rattle.amqp_containers.specs.Several.{AreLeaves, MeansAtLeastOne, MeansMultiple, multiple_canon, multiple_faults, mandatory_faults}
use Rattle.amqp_containers.specs.laws.Several.{several_meant, several_valued, several_plain, several_least, several_fits}
use Rattle.amqp_containers.specs.laws.Several.{none_fits, several_read, none_read}

-- an array holds its items
abbrev pub array_items : {T : Type 0} (u : TermType T) (ignores_standing : u.ignores_standing ≡ true)
    → ArrayOf (meaning_of u ignores_standing) (Array T)
array_items u ignores_standing = record {
  contents = λ v. v.0.items;
  norm = norm_array u.norm;
  norm_contents = λ v. array_normal u.norm v ∙ items_normal u.norm v.0.items;
}

-- The same meaning, with its canonical terms told by another function.
abbrev pub retold : {T : Type 0} (m : Meaning T) (canon : T → Term) → ((v : T) → canon v ≡ m.canon v) → Meaning T
retold m canon same = record m {
  canon = canon;
  same_canon = λ v w s. same v ∙ m.same_canon v w s ∙ sym (same w);
  canon_means = λ v i f. subst (λ t. m.means t (normal m.norm v)) (sym (same v)) (m.canon_means v i (subst IsFree (same v) f));
  norm_canon = λ v. same (normal m.norm v) ∙ m.norm_canon v ∙ sym (same v);
  free = λ t v h. subst IsFree (sym (same v)) (m.free t v h);
}

pub same_multiple_canon : {T : Type 0} (u : TermType T) (ignores_standing : u.ignores_standing ≡ true) (v : Option (Array T))
    → multiple_canon u.canon v ≡ (multiple_meaning (meaning_of u ignores_standing) (array_items u ignores_standing)).canon v
same_multiple_canon u ignores_standing None = refl
same_multiple_canon u ignores_standing (Some v) = refl

-- What terms mean in a field of any number of values, and in one of at least one.
abbrev pub multiple_of : {T : Type 0} (u : TermType T) → u.ignores_standing ≡ true → Meaning (Option (Array T))
multiple_of u ignores_standing =
    retold (multiple_meaning (meaning_of u ignores_standing) (array_items u ignores_standing)) (multiple_canon u.canon)
    (same_multiple_canon u ignores_standing)

abbrev pub mandatory_multiple_of : {T : Type 0} (u : TermType T) → u.ignores_standing ≡ true → Meaning (Array T)
mandatory_multiple_of u ignores_standing = mandatory_multiple_meaning (meaning_of u ignores_standing) (array_items u ignores_standing)

-- an array without items becomes none
abbrev pub normal_multiple : {T : Type 0} (u : TermType T) → u.ignores_standing ≡ true → Option (Array T) → Option (Array T)
normal_multiple u ignores_standing v = normal (multiple_of u ignores_standing).norm v

abbrev pub multiple_count : {T : Type 0} → (T → ℕ) → Option (Array T) → ℕ
multiple_count count None = 0
multiple_count count (Some v) = count_all count v.0.items

module _ {T : Type 0} (u : TermType T) (is_never_null : u.is_never_null ≡ true) (ignores_standing : u.ignores_standing ≡ true)
    (leaves : AreLeaves u) where
  abbrev Several : Meaning (Option (Array T))
  Several = multiple_of u ignores_standing

  abbrev AtLeastOne : Meaning (Array T)
  AtLeastOne = mandatory_multiple_of u ignores_standing

  pub multiple_valued : (v : Option (Array T)) → Several.is_value v → Everywhere IsValue (Several.canon v)
  multiple_valued None i = tt
  multiple_valued (Some v) i = several_valued u is_never_null ignores_standing (leaf null) tt v.0.items i

  pub multiple_plain : (v : Option (Array T)) → KeepsNoBytes (Several.canon v)
  multiple_plain None = tt
  multiple_plain (Some v) = several_plain u is_never_null ignores_standing (leaf null) tt v.0.items

  pub multiple_meant : (t : Term) (v : Option (Array T)) → Several.means t v
      → FieldMeant t (Several.canon v) (multiple_count u.count v)
  multiple_meant t None h =
      record { missing = λ n. refl; writable = λ b e. null_writable; nested = omega arith; counted = omega arith }
  multiple_meant t (Some v) h = several_meant u is_never_null ignores_standing leaves (leaf null) t v.0.items h

  pub multiple_least : (b : List ℕ) (t : Term) (v : Option (Array T)) → IsNoShorter b t (Several.canon v)
  multiple_least b t None = λ i n e. null_least b t e
  multiple_least b t (Some v) =
      several_least u is_never_null ignores_standing (leaf null) b t v.0.items (λ e i n h. null_least b t h)

  abbrev pub multiple_laws : FieldLaws Several
  multiple_laws = record {
    count = multiple_count u.count;
    is_least = true;
    valued = multiple_valued;
    keeps_no_bytes = multiple_plain;
    meant = multiple_meant;
    least = λ l b t v h. multiple_least b t v;
  }

  pub multiple_fits : (s : Standing) (t : Term) (v : Option (Array T)) → MeansMultiple u s t v → Several.means t v
  multiple_fits s t None m = none_fits u is_never_null ignores_standing s t m
  multiple_fits s t (Some v) m = several_fits u is_never_null ignores_standing s t v.0.items m.0 m.1

  pub multiple_read : (s : Standing) (t : Term) (v : Option (Array T)) → is_null t ≡ false → Several.means t v → MeansMultiple u s t v
  multiple_read s t None n m = none_read u is_never_null ignores_standing s t n m
  multiple_read s t (Some v) n m = several_read u is_never_null ignores_standing s t v.0.items n m

  abbrev multiple_slot : Slot (Option (Array T))
  multiple_slot = slot.multiple (field_type u is_never_null ignores_standing) (array_items u ignores_standing)

  -- Any number of values: null and an array without items are none.
  abbrev pub multiple : Field (Option (Array T))
  multiple = record {
    slot = record {
      rule = multiple_slot.rule;
      meaning = Several;
      required = multiple_slot.required;
      null_alike = multiple_slot.null_alike;
      null_canon = λ v h. ap is_null (same_multiple_canon u ignores_standing v) ∙ multiple_slot.null_canon v h;
    };
    laws = multiple_laws;
    takes_memory = true;
    reads = MeansMultiple u;
    faults = multiple_faults u;
    fits = multiple_fits;
    is_read = multiple_read;
  }

  pub mandatory_least : (b : List ℕ) (t : Term) (v : Array T) → AtLeastOne.means t v → IsNoShorter b t (AtLeastOne.canon v)
  mandatory_least b t v h =
      several_least u is_never_null ignores_standing (barred empty_multiple) b t v.0.items
      (λ e. absurd (no_values (several t) v.0.items h e))
    where
      no_values : (ts : List Term) (vs : List T) → SomeMean (u.means anywhere) ts vs → vs ≡ [] → ⊥
      no_values [] vs m e = m
      no_values (x ∷ xs) [] m e = m
      no_values (x ∷ xs) (w ∷ ws) m e = cc

  abbrev pub mandatory_multiple_laws : FieldLaws AtLeastOne
  mandatory_multiple_laws = record {
    count = λ v. count_all u.count v.0.items;
    is_least = true;
    valued = λ v. several_valued u is_never_null ignores_standing (barred empty_multiple) tt v.0.items;
    keeps_no_bytes = λ v. several_plain u is_never_null ignores_standing (barred empty_multiple) tt v.0.items;
    meant = λ t v. several_meant u is_never_null ignores_standing leaves (barred empty_multiple) t v.0.items;
    least = λ l b t v. mandatory_least b t v;
  }

  -- At least one value.
  abbrev pub mandatory_multiple : Field (Array T)
  mandatory_multiple = record {
    slot = slot.mandatory_multiple (field_type u is_never_null ignores_standing) (array_items u ignores_standing);
    laws = mandatory_multiple_laws;
    takes_memory = true;
    reads = MeansAtLeastOne u;
    faults = mandatory_faults u;
    fits = λ s t v m. several_fits u is_never_null ignores_standing s t v.0.items m.0 m.1;
    is_read = λ s t v n m. several_read u is_never_null ignores_standing s t v.0.items n m;
  }
