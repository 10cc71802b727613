-- A fault of a value of any kind is shown by bytes (Part 1, section 1.6).
use Rattle.std.proofs.Common.{◌≡◌, ℕ, zero, suc}
use Rattle.amqp_wire.specs.declared.error.Error.{Error}
use Rattle.amqp_wire.specs.declared.error.Error.TheVariants.{DuplicateKey, InvalidValue}
use Rattle.amqp_lookahead.specs.Kinds.{nulls, booleans, ubytes, ushorts, uints, ulongs, bytes, shorts, ints, longs, decimals32, decimals64}
use Rattle.amqp_lookahead.specs.Kinds.{decimals128, chars, timestamps, uuids, binaries, strings, symbols}
use Rattle.amqp_codec.specs.Faults.{Faults}
use Rattle.amqp_kinds.specs.declared.kind.Kind.{Kind}
use Rattle.amqp_kinds.specs.declared.kind.Kind.TheVariants as kind
use Rattle.amqp_kinds.specs.Kinds.{kind_at}
use Rattle.amqp_kinds.specs.KindReading.{no_value, of_kind, LevelFault}
use Rattle.amqp_values.specs.Levels.{value_with, faults_of, faults_at}
use Rattle.amqp_values.specs.ValueMembers.{ValueMeans}
use Rattle.amqp_simple_values.specs.SimpleType.{never_simple}
use Rattle.amqp_placed.specs.Facing.{bytes_open, AreShown}
use Rattle.amqp_placed.proofs.Here.{wrong_as, here_shows, begin_shown, peeked_shown}
use Rattle.amqp_placed.proofs.Primitives.{primitive_shown}
use Rattle.amqp_placed.proofs.Items.{items_shown, map_shown}
use Rattle.amqp_placed.proofs.Elements.{array_shown}
use Rattle.amqp_placed.proofs.Described.{described_value_shown}

module _ (e : Error) (new : e ≡ DuplicateKey → ⊥) where
  kind_shown : (f : Faults) → AreShown e f.fault → (k : Kind) → AreShown e (faults_of f k).fault
  kind_shown f shown kind.Null st x is h = primitive_shown nulls st x h
  kind_shown f shown kind.Bool st x is h = primitive_shown booleans st x h
  kind_shown f shown kind.Ubyte st x is h = primitive_shown ubytes st x h
  kind_shown f shown kind.Ushort st x is h = primitive_shown ushorts st x h
  kind_shown f shown kind.Uint st x is h = primitive_shown uints st x h
  kind_shown f shown kind.Ulong st x is h = primitive_shown ulongs st x h
  kind_shown f shown kind.Byte st x is h = primitive_shown bytes st x h
  kind_shown f shown kind.Short st x is h = primitive_shown shorts st x h
  kind_shown f shown kind.Int st x is h = primitive_shown ints st x h
  kind_shown f shown kind.Long st x is h = primitive_shown longs st x h
  kind_shown f shown kind.Decimal32 st x is h = primitive_shown decimals32 st x h
  kind_shown f shown kind.Decimal64 st x is h = primitive_shown decimals64 st x h
  kind_shown f shown kind.Decimal128 st x is h = primitive_shown decimals128 st x h
  kind_shown f shown kind.Char st x is h = primitive_shown chars st x h
  kind_shown f shown kind.Timestamp st x is h = primitive_shown timestamps st x h
  kind_shown f shown kind.Uuid st x is h = primitive_shown uuids st x h
  kind_shown f shown kind.Binary st x is h = primitive_shown binaries st x h
  kind_shown f shown kind.String st x is h = primitive_shown strings st x h
  kind_shown f shown kind.Symbol st x is h = primitive_shown symbols st x h
  kind_shown f shown kind.Described st x is h = described_value_shown e f.fault shown st x is h
  kind_shown f shown kind.List st x is h = items_shown ValueMeans f.fault e shown st x is h
  kind_shown f shown kind.Map st x is h = map_shown (value_with f) (value_with f) e new shown shown st x is h
  kind_shown f shown kind.Array st x is h = array_shown ValueMeans f.fault e shown st x is h

  level_shown : (n : ℕ) → AreShown e (faults_at n).fault
  level_shown zero st f is h = absurd h
  level_shown (suc n) st f is (no_value h) = begin_shown st f h
  level_shown (suc n) st f is (of_kind {c} {mid} peeks h) =
      peeked_shown st c mid f peeks (kind_shown (faults_at n) (level_shown n) (kind_at c) mid f is h)

  pub value_shown : AreShown e (LevelFault faults_at)
  value_shown st f is h = level_shown h.levels st f is h.named

-- A value that is there, and isn't allowed.
pub invalid_shown : (e : Error) → AreShown e never_simple.fault
invalid_shown e st f is (error, place) P d around h =
    here_shows st f P d around place (wrong_as f.error InvalidValue around P d (bytes_open st) error tt)
