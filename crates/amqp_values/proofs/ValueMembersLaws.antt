-- A value of each kind is what it is made of, and a term means the one as it means the other.
use Rattle.std.proofs.Common.{◌≡◌, ℕ, ℤ, Bool as TruthValue, List, refl, ap, ◌∙◌, subst, sym, string_bytes, Global}
use Rattle.std.specs.Prelude.{String as Text}
use Rattle.amqp_model.specs.Term.{Primitive, null, boolean, ubyte, ushort, uint, ulong, byte, short, int, long, char, timestamp, decimal32}
use Rattle.amqp_model.specs.Term.{decimal64, decimal128, uuid, binary, string, symbol, list, map, array, Term, leaf, container}
use Rattle.amqp_model.specs.Standing.{Standing}
use Rattle.amqp_model.specs.Ranges.{IsInRange}
use Rattle.amqp_wire.specs.declared.symbol.Symbol.{Symbol as OwnSymbol}
use Rattle.amqp_lookahead.specs.Members.{descriptor_of}
use Rattle.amqp_codec.specs.PrimitiveTypes.{null_type, boolean_type, ubyte_type, ushort_type, uint_type, ulong_type, byte_type, short_type}
use Rattle.amqp_codec.specs.PrimitiveTypes.{int_type, long_type, char_type}
use Rattle.amqp_codec.specs.Wrappers.{string_type, symbol_type}
use Rattle.amqp_primitives.specs.declared.dec32.Dec32.{Dec32}
use Rattle.amqp_primitives.specs.declared.dec64.Dec64.{Dec64}
use Rattle.amqp_primitives.specs.declared.dec128.Dec128.{Dec128}
use Rattle.amqp_primitives.specs.declared.timestamp.Timestamp.{Timestamp as OwnTimestamp}
use Rattle.amqp_primitives.specs.declared.uuid.Uuid.{Uuid as OwnUuid}
use Rattle.amqp_primitives.specs.declared.binary.Binary.{Binary as OwnBinary}
use Rattle.amqp_primitives.specs.Types.{decimal32_type, decimal64_type, decimal128_type, timestamp_type, uuid_type, binary_type}
use Rattle.amqp_described.specs.declared.described.Described.{Described}
use Rattle.amqp_kinds.specs.declared.kind.Kind.{Kind}
use Rattle.amqp_kinds.specs.declared.kind.Kind.TheVariants as kind
use Rattle.amqp_kinds.specs.Kinds.{term_kind}
use Rattle.amqp_kinds.specs.KindReading.{IsMember}
use Rattle.amqp_kinds.specs.laws.TreeMeanings.{leaf_means, means_leaf, items_mean, mean_items, pair_means, means_pair, map_means, means_map}
use Rattle.amqp_values.specs.declared.value.Value.{Value, Null, Bool, Ubyte, Ushort, Uint, Ulong, Byte, Short, Int, Long, Decimal32}
use Rattle.amqp_values.specs.declared.value.Value.{Decimal64, Decimal128, Char, Timestamp, Uuid, Binary, String, Symbol, Described', List'}
use Rattle.amqp_values.specs.declared.value.Value.{Map', Array', items-the_row-Value}
use Rattle.amqp_values.specs.declared.map.ValueMap.{items-the_row-ValueMap-0-2}
use Rattle.amqp_values.specs.Values.{value_term}
use Rattle.amqp_values.specs.laws.Values.{values_are_trees, row_is, pairs_is}
use Rattle.amqp_values.specs.ValueMembers.{ValueMeans, IsOfItems, MeansValues, IsDescribed, MeansDescribed, IsOfPairs, MeansPairs}

-- what a value of each kind is made of
abbrev IsOfKind : Kind → Value → Type 0
IsOfKind kind.Null v = (x : Unit {0}) × (v ≡ Null)
IsOfKind kind.Bool v = (x : TruthValue) × (v ≡ Bool x)
IsOfKind kind.Ubyte v = (x : ℕ) × (v ≡ Ubyte x)
IsOfKind kind.Ushort v = (x : ℕ) × (v ≡ Ushort x)
IsOfKind kind.Uint v = (x : ℕ) × (v ≡ Uint x)
IsOfKind kind.Ulong v = (x : ℕ) × (v ≡ Ulong x)
IsOfKind kind.Byte v = (x : ℤ) × (v ≡ Byte x)
IsOfKind kind.Short v = (x : ℤ) × (v ≡ Short x)
IsOfKind kind.Int v = (x : ℤ) × (v ≡ Int x)
IsOfKind kind.Long v = (x : ℤ) × (v ≡ Long x)
IsOfKind kind.Decimal32 v = (x : Dec32) × (v ≡ Decimal32 x)
IsOfKind kind.Decimal64 v = (x : Dec64) × (v ≡ Decimal64 x)
IsOfKind kind.Decimal128 v = (x : Dec128) × (v ≡ Decimal128 x)
IsOfKind kind.Char v = (x : ℕ) × (v ≡ Char x)
IsOfKind kind.Timestamp v = (x : OwnTimestamp) × (v ≡ Timestamp x)
IsOfKind kind.Uuid v = (x : OwnUuid) × (v ≡ Uuid x)
IsOfKind kind.Binary v = (x : OwnBinary) × (v ≡ Binary x)
IsOfKind kind.String v = (x : Text Global) × (v ≡ String x)
IsOfKind kind.Symbol v = (x : OwnSymbol) × (v ≡ Symbol x)
IsOfKind kind.Described v = (d : Described Value) × IsDescribed d v
IsOfKind kind.List v = (vs : List Value) × IsOfItems list vs v
IsOfKind kind.Map v = (ps : List (Value × Value)) × IsOfPairs ps v
IsOfKind kind.Array v = (vs : List Value) × IsOfItems array vs v

of_kind : (v : Value) → IsOfKind (term_kind (value_term v)) v
of_kind Null = (tt, refl)
of_kind (Bool x) = (x, refl)
of_kind (Ubyte x) = (x, refl)
of_kind (Ushort x) = (x, refl)
of_kind (Uint x) = (x, refl)
of_kind (Ulong x) = (x, refl)
of_kind (Byte x) = (x, refl)
of_kind (Short x) = (x, refl)
of_kind (Int x) = (x, refl)
of_kind (Long x) = (x, refl)
of_kind (Decimal32 x) = (x, refl)
of_kind (Decimal64 x) = (x, refl)
of_kind (Decimal128 x) = (x, refl)
of_kind (Char x) = (x, refl)
of_kind (Timestamp x) = (x, refl)
of_kind (Uuid x) = (x, refl)
of_kind (Binary x) = (x, refl)
of_kind (String x) = (x, refl)
of_kind (Symbol x) = (x, refl)
of_kind (Described' p d v) = (record { descriptor = d; value = v }, refl)
of_kind (List' shape row) = (items-the_row-Value _ row, ap (container list) (row_is _ row))
of_kind (Map' shape row) = (items-the_row-ValueMap-0-2 _ row, ap (container map) (pairs_is _ row))
of_kind (Array' shape row) = (items-the_row-Value _ row, ap (container array) (row_is _ row))

made_of : (k : Kind) (v : Value) → k ≡ term_kind (value_term v) → IsOfKind k v
made_of k v e = subst (λ k. IsOfKind k v) (sym e) (of_kind v)

-- primitives
module _ {T : Type 0} (k : Kind) (primitive : T → Primitive) (make : T → Value) (is : (x : T) → value_term (make x) ≡ leaf (primitive x))
    (back : (v : Value) → k ≡ term_kind (value_term v) → (x : T) × (v ≡ make x)) where
  own_means : (s : Standing) (t : Term) (x : T) (v : Value) → v ≡ make x → (t ≡ leaf (primitive x)) × IsInRange (primitive x)
      → ValueMeans s t v
  own_means s t x v e m = leaf_means value_term values_are_trees (primitive x) s t v (ap value_term e ∙ is x) m

  means_own : (s : Standing) (t : Term) (v : Value) → ValueMeans s t v → k ≡ term_kind (value_term v)
      → (x : T) × (v ≡ make x) × ((t ≡ leaf (primitive x)) × IsInRange (primitive x))
  means_own s t v m e =
      let b = back v e in (b.0, b.1, means_leaf value_term values_are_trees (primitive b.0) s t v (ap value_term b.1 ∙ is b.0) m)

  primitive_member : IsMember value_term values_are_trees k (λ s t x. (t ≡ leaf (primitive x)) × IsInRange (primitive x))
      (λ x v. v ≡ make x)
  primitive_member = record { to = own_means; from = means_own }

pub null_member : IsMember value_term values_are_trees kind.Null null_type.means (λ x v. v ≡ Null)
null_member = primitive_member kind.Null (λ _. null) (λ _. Null) (λ x. refl) (made_of kind.Null)

pub bool_member : IsMember value_term values_are_trees kind.Bool boolean_type.means (λ x v. v ≡ Bool x)
bool_member = primitive_member kind.Bool boolean Bool (λ x. refl) (made_of kind.Bool)

pub ubyte_member : IsMember value_term values_are_trees kind.Ubyte ubyte_type.means (λ x v. v ≡ Ubyte x)
ubyte_member = primitive_member kind.Ubyte ubyte Ubyte (λ x. refl) (made_of kind.Ubyte)

pub ushort_member : IsMember value_term values_are_trees kind.Ushort ushort_type.means (λ x v. v ≡ Ushort x)
ushort_member = primitive_member kind.Ushort ushort Ushort (λ x. refl) (made_of kind.Ushort)

pub uint_member : IsMember value_term values_are_trees kind.Uint uint_type.means (λ x v. v ≡ Uint x)
uint_member = primitive_member kind.Uint uint Uint (λ x. refl) (made_of kind.Uint)

pub ulong_member : IsMember value_term values_are_trees kind.Ulong ulong_type.means (λ x v. v ≡ Ulong x)
ulong_member = primitive_member kind.Ulong ulong Ulong (λ x. refl) (made_of kind.Ulong)

pub byte_member : IsMember value_term values_are_trees kind.Byte byte_type.means (λ x v. v ≡ Byte x)
byte_member = primitive_member kind.Byte byte Byte (λ x. refl) (made_of kind.Byte)

pub short_member : IsMember value_term values_are_trees kind.Short short_type.means (λ x v. v ≡ Short x)
short_member = primitive_member kind.Short short Short (λ x. refl) (made_of kind.Short)

pub int_member : IsMember value_term values_are_trees kind.Int int_type.means (λ x v. v ≡ Int x)
int_member = primitive_member kind.Int int Int (λ x. refl) (made_of kind.Int)

pub long_member : IsMember value_term values_are_trees kind.Long long_type.means (λ x v. v ≡ Long x)
long_member = primitive_member kind.Long long Long (λ x. refl) (made_of kind.Long)

pub decimal32_member : IsMember value_term values_are_trees kind.Decimal32 decimal32_type.means (λ x v. v ≡ Decimal32 x)
decimal32_member = primitive_member kind.Decimal32 (λ v. decimal32 v.0) Decimal32 (λ x. refl) (made_of kind.Decimal32)

pub decimal64_member : IsMember value_term values_are_trees kind.Decimal64 decimal64_type.means (λ x v. v ≡ Decimal64 x)
decimal64_member = primitive_member kind.Decimal64 (λ v. decimal64 v.0) Decimal64 (λ x. refl) (made_of kind.Decimal64)

pub decimal128_member : IsMember value_term values_are_trees kind.Decimal128 decimal128_type.means (λ x v. v ≡ Decimal128 x)
decimal128_member = primitive_member kind.Decimal128 (λ v. decimal128 v.0) Decimal128 (λ x. refl) (made_of kind.Decimal128)

pub char_member : IsMember value_term values_are_trees kind.Char char_type.means (λ x v. v ≡ Char x)
char_member = primitive_member kind.Char char Char (λ x. refl) (made_of kind.Char)

pub timestamp_member : IsMember value_term values_are_trees kind.Timestamp timestamp_type.means (λ x v. v ≡ Timestamp x)
timestamp_member = primitive_member kind.Timestamp (λ v. timestamp v.0) Timestamp (λ x. refl) (made_of kind.Timestamp)

pub uuid_member : IsMember value_term values_are_trees kind.Uuid uuid_type.means (λ x v. v ≡ Uuid x)
uuid_member = primitive_member kind.Uuid (λ v. uuid v.0) Uuid (λ x. refl) (made_of kind.Uuid)

pub binary_member : IsMember value_term values_are_trees kind.Binary binary_type.means (λ x v. v ≡ Binary x)
binary_member = primitive_member kind.Binary (λ v. binary v.0.items) Binary (λ x. refl) (made_of kind.Binary)

pub string_member : IsMember value_term values_are_trees kind.String string_type.means (λ x v. v ≡ String x)
string_member = primitive_member kind.String (λ v. string (string_bytes v)) String (λ x. refl) (made_of kind.String)

pub symbol_member : IsMember value_term values_are_trees kind.Symbol symbol_type.means (λ x v. v ≡ Symbol x)
symbol_member = primitive_member kind.Symbol (λ v. symbol (string_bytes v.0)) Symbol (λ x. refl) (made_of kind.Symbol)

-- what holds others
pub described_member : IsMember value_term values_are_trees kind.Described MeansDescribed IsDescribed
described_member = record {
  to = λ s t d v e m. pair_means value_term values_are_trees s t (descriptor_of d.descriptor) d.value v e m;
  from = λ s t v m k.
      (let b = made_of kind.Described v k in
      (b.0, b.1, means_pair value_term values_are_trees s t (descriptor_of b.0.descriptor) b.0.value v b.1 m));
}

pub list_member : IsMember value_term values_are_trees kind.List (MeansValues list) (IsOfItems list)
list_member = record {
  to = λ s t vs v e m. items_mean value_term values_are_trees list tt s t vs v e m;
  from = λ s t v m k.
      (let b = made_of kind.List v k in (b.0, b.1, mean_items value_term values_are_trees list s t b.0 v b.1 m));
}

pub array_member : IsMember value_term values_are_trees kind.Array (MeansValues array) (IsOfItems array)
array_member = record {
  to = λ s t vs v e m. items_mean value_term values_are_trees array tt s t vs v e m;
  from = λ s t v m k.
      (let b = made_of kind.Array v k in (b.0, b.1, mean_items value_term values_are_trees array s t b.0 v b.1 m));
}

pub map_member : IsMember value_term values_are_trees kind.Map MeansPairs IsOfPairs
map_member = record {
  to = λ s t ps v e m. map_means value_term values_are_trees s t ps v e m;
  from = λ s t v m k. (let b = made_of kind.Map v k in (b.0, b.1, means_map value_term values_are_trees s t b.0 v b.1 m));
}
