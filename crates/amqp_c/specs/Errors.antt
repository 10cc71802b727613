-- The names of errors by their numbers.
use Rattle.std.specs.Prelude.{◌≡◌, ◌⊎◌, ℕ, List, length, codes}
use Rattle.amqp_wire.specs.declared.error.Error.{Error}
use Rattle.amqp_wire.specs.Error.{number_of, name_of}
use Rattle.amqp_c.specs.Room.{Fills}

-- The number's name: an error's, or one of the library's own.
abbrev pub IsNameOf : ℕ → List ℕ → Type 0
IsNameOf number name =
    ((e : Error) × (number_of e ≡ number) × (name ≡ name_of e)) ⊎ (((number ≡ 1000) × (name ≡ codes "NoRoom"))
    ⊎ (((number ≡ 1001) × (name ≡ codes "NoType")) ⊎ ((number ≡ 1002) × (name ≡ codes "NoLimits"))))

-- No error has the number.
abbrev pub IsNameless : ℕ → Type 0
IsNameless number = (name : List ℕ) → IsNameOf number name → ⊥

-- The length of the number's name is told, and the name stands in the room if it fits; of a number without a name it is 0.
abbrev pub TellsName : ℕ → ℕ → List ℕ → List ℕ → Type 0
TellsName number len old new = (IsNameless number × (len ≡ 0) × (new ≡ old))
    ⊎ ((name : List ℕ) × IsNameOf number name × (len ≡ length name) × Fills name old new)
