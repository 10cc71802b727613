-- Members that a described value may be, by their codes and names in order.
use Rattle.std.specs.Prelude.{◌≡◌, ℕ, Bool, List, length, take, eqb, position, All, MatchOption, Option, string_bytes}
use Rattle.std.specs.Borrow.{Bor}
use Rattle.std.specs.Str.{bytes_eq}
use Rattle.amqp_model.specs.Term.{Descriptor, name, code}
use Rattle.amqp_wire.specs.declared.descriptor.Descriptor.{Descriptor as DescriptorValue}
use Rattle.amqp_wire.specs.declared.descriptor.Descriptor.TheVariants.{Name, Code}

abbrev pub descriptor_of : DescriptorValue → Descriptor
descriptor_of (Name s) = name (string_bytes s.0)
descriptor_of (Code n) = code n

-- A code and a name.
abbrev pub Member : Type 0
Member = ℕ × Bor (List ℕ)

abbrev pub is_of : Descriptor → Member → Bool
is_of (code n) m = eqb m.0 n
is_of (name s) m = bytes_eq m.1.now s

-- The place of the first member whose code or name the descriptor is.
abbrev pub place_of : List Member → Descriptor → Option ℕ
place_of members d = position (is_of d) members

-- The member's name isn't one of so many bytes that begins so.
abbrev pub BeginsNot : Member → ℕ → List ℕ → Type 0
BeginsNot m n s = length m.1.now ≡ n → take (length s) m.1.now ≡ s → ⊥

-- The bytes s of a name of n bytes are known as the front of a member's name, or no such name begins so.
abbrev pub FrontIs : List Member → ℕ → List ℕ → Option (Bor (List ℕ)) → Type 0
FrontIs members n s known = MatchOption known (All (λ m. BeginsNot m n s) members) (λ front. front.now ≡ s)

-- A pair as its code and its name.
abbrev pub as_name : Member → ℕ × List ℕ
as_name m = (m.0, m.1.now)

abbrev pub is_named : Descriptor → ℕ × List ℕ → Bool
is_named (code n) m = eqb m.0 n
is_named (name s) m = bytes_eq m.1 s

-- The place of the first member that the descriptor names.
abbrev pub name_place : List (ℕ × List ℕ) → Descriptor → Option ℕ
name_place ns d = position (is_named d) ns
