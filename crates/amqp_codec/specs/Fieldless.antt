-- The table of a composite without fields (Part 1, section 1.4).
use Rattle.std.specs.Prelude.{◌≡◌, ℕ, true, List, ltb}
use Rattle.amqp_model.specs.FieldType.{unchanged}
use Rattle.amqp_codec.specs.Fields.{Fields, none, field}
use Rattle.amqp_codec.specs.Composite.{Table}

unfoldable pub HasNoFields : {V : Type 0} → Fields V → Type 0
HasNoFields none = Unit {0}
HasNoFields (field get f fs) = ⊥

pub has_none : (V : Type 0) → HasNoFields {V = V} none
unfolding HasNoFields
has_none V = tt

-- by its code, which takes two bytes at most, and its name
abbrev pub fieldless : {V : Type 0} (code : ℕ) → List ℕ → ltb code 256 ≡ true → Table V
fieldless code name small = record { code = code; name = name; fields = none; norm = unchanged; norm_is = λ v. tt; is_small = small }
