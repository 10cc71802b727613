-- What makes the values of a type keys of a map.
use Rattle.std.proofs.Common.{◌≡◌, Bool}
use Rattle.std.specs.Bool.{Decides}
use Rattle.amqp_model.specs.FieldType.{normal}
use Rattle.amqp_codec.specs.TermType.{TermType}
use Rattle.amqp_codec.specs.Spelled.{written, IsWritable}

-- The value is one of its type, and each that is the same is its own normal value.
abbrev pub IsOwnKey : {T : Type 0} → TermType T → T → Type 0
IsOwnKey {T} u v = u.is_value v × ((w : T) → u.same v w → u.same (normal u.norm w) w)

-- Keys are equal if they are one value, and each is its own normal value.
pub record IsKey {T : Type 0} (u : TermType T) (eq : T → T → Bool) : Type 0 where
  pub decides : (v w : T) → Decides (eq v w) (u.same v w)
  pub own : (v : T) → u.same (normal u.norm v) v

-- Equality of two keys that can be written is equality of their canonical texts.
abbrev pub ComparesTexts : {T : Type 0} → TermType T → (T → T → Bool) → Type 0
ComparesTexts {T} u eq = (v w : T) → u.is_value v → u.is_value w → IsWritable u v → IsWritable u w
    → Decides (eq v w) (written u v ≡ written u w)
