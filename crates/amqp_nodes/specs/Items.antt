-- The items of arrays, which have no constructor of their own (Part 1, section 1.2.4).
use Rattle.std.specs.Prelude.{◌≡◌, ℕ, ◌⊎◌, List, [], ◌++◌}
use Rattle.amqp_wire.specs.declared.error.Error.{Error}
use Rattle.amqp_wire.specs.declared.error.Error.TheVariants.{Cut}
use Rattle.amqp_wire.specs.Codes.{refusal_of}
use Rattle.amqp_model.specs.Term.{Term}
use Rattle.amqp_model.specs.Constructors.{Format, fixed, variable, compound, unknown, format}
use Rattle.amqp_model.specs.Spelling.{IsKnown, IsDataOf}
use Rattle.amqp_lengths.specs.Announced.{content_size, Wants}

-- How many bytes the size has that data of this format begins with.
abbrev pub size_of : Format → ℕ
size_of (fixed w value) = 0
size_of (variable w value) = w
size_of (compound kind w) = w
size_of unknown = 0

-- How many bytes belong behind that size: as many as it says, and the count of a list of the size 0.
abbrev pub behind_size : Format → ℕ → ℕ
behind_size (fixed w value) size = size
behind_size (variable w value) size = size
behind_size (compound kind w) size = content_size kind w size
behind_size unknown size = size

-- Why bytes don't begin with the data of an item: its code isn't known, or they end before the data does.
abbrev pub ItemFault : ℕ → List ℕ → Error → Type 0
ItemFault c bytes e = ((IsKnown (format c) → ⊥) × (e ≡ refusal_of c)) ⊎ (Wants (format c) bytes × (e ≡ Cut))

-- The bytes begin with no term's data under the code, and the error names the fault.
pub record RefusesItem (c : ℕ) (bytes : List ℕ) (e : Error) : Type 0 where
  pub none : (t : Term) (front after : List ℕ) → bytes ≡ front ++ after → IsDataOf t [] c front → ⊥
  pub fault : ItemFault c bytes e
