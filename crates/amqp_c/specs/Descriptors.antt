-- The numbers of types by the codes of their descriptors (Part 1, section 1.5), and the names of their fields.
use Rattle.std.specs.Prelude.{◌≡◌, ◌⊎◌, ℕ, Some, None, List, length}
use Rattle.std.specs.List.{slice_get}
use Rattle.amqp_catalogue.specs.declared.type_name.TypeName.{TypeName}
use Rattle.amqp_descriptors.specs.Descriptors.{code_of, field_names}
use Rattle.amqp_c.specs.Rewriting.{HasNumber}
use Rattle.amqp_c.specs.Room.{Fills}

-- The number is that of the type with this code, or 0 if there is none.
abbrev pub IsTypeOfCode : ℕ → ℕ → Type 0
IsTypeOfCode code number = (((named : TypeName) → code_of named ≡ Some code → ⊥) × (number ≡ 0))
    ⊎ ((named : TypeName) × (code_of named ≡ Some code) × HasNumber named number)

-- The name is that of the field with this number, counted from 0, of the type with that number.
abbrev pub IsFieldName : ℕ → ℕ → List ℕ → Type 0
IsFieldName number index name = (named : TypeName) × HasNumber named number × (slice_get (field_names named) index ≡ Some name)

-- No type has that number, or the type that has it has no field with this number.
abbrev pub HasNoFieldName : ℕ → ℕ → Type 0
HasNoFieldName number index = ((named : TypeName) → HasNumber named number → ⊥)
    ⊎ ((named : TypeName) × HasNumber named number × (slice_get (field_names named) index ≡ None))

-- The length of the field's name is told, and the name stands in the room if it fits; if there is no such field it is 0.
abbrev pub TellsFieldName : ℕ → ℕ → ℕ → List ℕ → List ℕ → Type 0
TellsFieldName number index len old new = (HasNoFieldName number index × (len ≡ 0) × (new ≡ old))
    ⊎ ((name : List ℕ) × IsFieldName number index name × (len ≡ length name) × Fills name old new)
