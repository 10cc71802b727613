-- The type of a composite: a described list whose items fit its table (Part 1, sections 1.4 and 1.5).
use Rattle.std.proofs.Common.{◌≡◌, ℕ, true, List, [], ◌∷◌, refl, arith, ltb}
use Rattle.amqp_model.specs.FieldType.{Norm, normal}
use Rattle.amqp_model.specs.Fields.{IsNormal}
use Rattle.amqp_model.specs.Composite.{Describes}
use Rattle.amqp_model.specs.Composite as model
use Rattle.std.proofs.lemmas.Bool.{ltb-true}
use Rattle.amqp_codec.specs.TermType.{TermType}
use Rattle.amqp_codec.specs.ListType.{ListTable, list_of}
use Rattle.amqp_codec.specs.DescribedType.{described_by}
use Rattle.amqp_codec.specs.Descriptors.{Descriptors}
use Rattle.amqp_codec.specs.OtherSource.{fields_faults, member_faults}
use Rattle.amqp_codec.specs.laws.OtherSource.{fields_read}
use Rattle.amqp_codec.specs.FieldReading.{FieldsRead}
use Rattle.amqp_codec.specs.Members.{Members}
use Rattle.amqp_codec.specs.Fields.{Fields, slots, take_memory}
use Rattle.amqp_codec.specs.laws.Descriptor.{descriptor_short}
use Rattle.amqp_codec.specs.laws.FieldPlaces.{fields_shrink}

-- What describes a composite: a code, which takes two bytes at most, and a name.
pub record Names : Type 0 where
  pub code : ℕ
  pub name : List ℕ
  pub is_small : ltb code 256 ≡ true

-- The table of a composite: the code and the name that describe it, and its fields.
pub record Table (V : Type 0) : Type 1 where
  pub code : ℕ
  pub name : List ℕ
  pub fields : Fields V
  -- how a value is normalised, field by field
  pub norm : Norm V
  pub norm_is : (v : V) → IsNormal (slots fields) v (normal norm v)
  -- the code takes two bytes at most
  pub is_small : ltb code 256 ≡ true

-- as the model's table
abbrev pub table_of : {V : Type 0} → Table V → model.Table V
table_of c = record { code = c.code; name = c.name; fields = slots c.fields; norm = c.norm; norm_is = c.norm_is }

-- the list of its fields
abbrev pub fields_of : {V : Type 0} → Table V → ListTable V
fields_of c = record { fields = c.fields; norm = c.norm; norm_is = c.norm_is }

-- what describes it
abbrev pub names_of : {V : Type 0} → Table V → Names
names_of c = record { code = c.code; name = c.name; is_small = c.is_small }

-- the table of which they are the parts
abbrev pub table_with : {V : Type 0} → Names → ListTable V → Table V
table_with d l = record { code = d.code; name = d.name; fields = l.fields; norm = l.norm; norm_is = l.norm_is; is_small = d.is_small }

-- The descriptors of a composite, by its table.
abbrev pub descriptors : {V : Type 0} → Table V → Descriptors
descriptors c = record {
  describes = Describes (table_of c);
  number = c.code;
  by_code = refl;
  in_range = (let s = ltb-true c.code 256 c.is_small in omega arith);
  shortest_code = descriptor_short (table_of c) c.is_small;
}

-- The one member that a composite is.
abbrev pub composite_members : {V : Type 0} → Table V → Members V
composite_members c = record {
  names = (c.code, c.name) ∷ [];
  reads = λ i. FieldsRead c.fields;
  faults = λ i. fields_faults c.fields;
  takes_at = λ i. take_memory c.fields;
  takes_memory = take_memory c.fields;
  takes = λ i h. h;
  shrinks = λ i. fields_shrink c.fields;
  reads_elsewhere = λ s i. fields_read s c.fields;
}

-- The type of a composite by its table: the described list of its fields.
abbrev pub composite : {V : Type 0} → Table V → TermType V
composite c = described_by (descriptors c) (list_of (fields_of c)) refl (member_faults (composite_members c))
