-- Why no value of any kind is read: by its kind, and by why those that it holds aren't.
use Rattle.std.proofs.Common.{ℕ, ◌+◌, ◌<◌, zero, suc, true, List, length, Result, Ok, Err, Global, Vec}
use Rattle.amqp_wire.specs.declared.error.Error.{Error}
use Rattle.amqp_lookahead.specs.Kinds.{nulls, booleans, ubytes, ushorts, uints, ulongs, bytes, shorts, ints, longs, decimals32, decimals64}
use Rattle.amqp_lookahead.specs.Kinds.{decimals128, chars, timestamps, uuids, binaries, strings, symbols}
use Rattle.amqp_decoder.specs.State.{State}
use Rattle.amqp_decoder.specs.Places.{Located, RefusesAt}
use Rattle.amqp_codec.specs.Faults.{Faults, no_faults}
use Rattle.amqp_codec.specs.TermType.{TermType}
use Rattle.amqp_codec.specs.TreeType.{tree}
use Rattle.amqp_codec.specs.PrimitiveTypes.{primitive_faults}
use Rattle.amqp_codec.specs.ListOrArrayType.{items_faults}
use Rattle.amqp_codec.specs.VecType.{list_opening}
use Rattle.amqp_codec.specs.laws.MapReading.{map_faults}
use Rattle.amqp_containers.specs.ArrayType.{array_opening}
use Rattle.amqp_described.specs.DescribedReading.{described_faults}
use Rattle.amqp_kinds.specs.declared.kind.Kind.{Kind}
use Rattle.amqp_kinds.specs.declared.kind.Kind.TheVariants as kind
use Rattle.amqp_kinds.specs.KindReading.{kind_faults}
use Rattle.amqp_values.specs.declared.value.Value.{Value}
use Rattle.amqp_values.specs.Values.{value_term}
use Rattle.amqp_values.specs.laws.Values.{values_are_trees}
use Rattle.amqp_values.specs.ValueMembers.{ValueMeans}

-- The type of values, with why none is read.
abbrev pub value_with : Faults → TermType Value
value_with f = tree value_term values_are_trees f true

-- Why none of a kind is read, by why none is that it holds.
abbrev pub faults_of : Faults → Kind → Faults
faults_of f kind.Null = primitive_faults nulls
faults_of f kind.Bool = primitive_faults booleans
faults_of f kind.Ubyte = primitive_faults ubytes
faults_of f kind.Ushort = primitive_faults ushorts
faults_of f kind.Uint = primitive_faults uints
faults_of f kind.Ulong = primitive_faults ulongs
faults_of f kind.Byte = primitive_faults bytes
faults_of f kind.Short = primitive_faults shorts
faults_of f kind.Int = primitive_faults ints
faults_of f kind.Long = primitive_faults longs
faults_of f kind.Decimal32 = primitive_faults decimals32
faults_of f kind.Decimal64 = primitive_faults decimals64
faults_of f kind.Decimal128 = primitive_faults decimals128
faults_of f kind.Char = primitive_faults chars
faults_of f kind.Timestamp = primitive_faults timestamps
faults_of f kind.Uuid = primitive_faults uuids
faults_of f kind.Binary = primitive_faults binaries
faults_of f kind.String = primitive_faults strings
faults_of f kind.Symbol = primitive_faults symbols
faults_of f kind.Described = described_faults f
faults_of f kind.List = items_faults list_opening ValueMeans f
faults_of f kind.Map = map_faults (value_with f) (value_with f)
faults_of f kind.Array = items_faults array_opening ValueMeans f

-- Why none is read that holds fewer levels of others than so many.
abbrev pub faults_at : ℕ → Faults
faults_at zero = no_faults
faults_at (suc n) = kind_faults (faults_of (faults_at n))

-- The values that are read, which hold so many levels of others.
abbrev pub value_in : ℕ → TermType Value
value_in levels = value_with (faults_at (suc levels))

-- In what is open here so many levels are one more than may be opened, or yet more.
abbrev pub IsBounded : ℕ → State → Type 0
IsBounded levels st = st.nesting < levels + length st.saved

-- What a call that reads things one after another answers, into a vector.
abbrev pub AnswersEach : {A : Type 0} → (State → List A → State → Type 0) → (State → Located → Type 0) → State
    → Result (Vec A Global) Error → State → Type 0
AnswersEach reads fault old (Ok vs) new = reads old vs.items new
AnswersEach reads fault old (Err e) new = RefusesAt true reads fault old e new
