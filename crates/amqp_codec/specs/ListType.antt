-- The type of a plain list whose items fit a table of fields (Part 1, section 1.4).
use Rattle.std.proofs.Common.{true, refl, suc}
use Rattle.amqp_model.specs.FieldType.{Norm, normal}
use Rattle.amqp_model.specs.Fields.{AreValues, IsNormal, Same}
use Rattle.amqp_model.specs.Composite.{MeansList, canonical_list}
use Rattle.amqp_codec.specs.TermType.{TermType}
use Rattle.amqp_codec.specs.laws.Meaning.{meaning_sameness, meaning_ignores, meaning_rewrites}
use Rattle.amqp_codec.specs.OtherSource.{fields_faults}
use Rattle.amqp_codec.specs.Fields.{Fields, slots, count_of, are_least, take_memory}
use Rattle.amqp_codec.specs.laws.Fields.{items_keeps_no_bytes, items_valued}
use Rattle.amqp_codec.specs.laws.ListType.{list_meaning, list_meant, list_least}

module _ {V : Type 0} (fs : Fields V) (norm : Norm V) (norm_is : (v : V) → IsNormal (slots fs) v (normal norm v)) where
  -- The type of the list of these fields.
  abbrev pub list_type : TermType V
  list_type = record {
    is_value = AreValues (slots fs);
    means = λ s. MeansList (slots fs);
    faults = fields_faults fs;
    canon = canonical_list (slots fs);
    norm = norm;
    same = Same (slots fs);
    count = λ v. suc (count_of fs v);
    is_never_null = true;
    ignores_standing = true;
    takes_memory = take_memory fs;
    is_least = are_least fs;
    sameness = meaning_sameness (list_meaning fs norm norm_is);
    rewrites = λ v. meaning_rewrites (list_meaning fs norm norm_is) v (items_keeps_no_bytes fs v) (λ i. (tt, items_valued fs v i));
    meant = list_meant fs norm norm_is;
    own = λ s. (list_meaning fs norm norm_is).own;
    norm_norm = (list_meaning fs norm norm_is).norm_norm;
    formed = λ s z t u v w h k e. refl;
    never_null = λ _ v. refl;
    standing_ignored = λ _ v. meaning_ignores (list_meaning fs norm norm_is) v (items_keeps_no_bytes fs v);
    least = list_least fs norm norm_is;
  }

-- A list of fields as a table: its fields, and how a value is normalised, field by field.
pub record ListTable (V : Type 0) : Type 1 where
  pub fields : Fields V
  pub norm : Norm V
  pub norm_is : (v : V) → IsNormal (slots fields) v (normal norm v)

-- the type of its values
abbrev pub list_of : {V : Type 0} → ListTable V → TermType V
list_of c = list_type c.fields c.norm c.norm_is
