-- The sections of a message, by their descriptors (Part 3, section 3.2).
use Rattle.std.specs.Prelude.{◌≡◌, ◌≤◌, ◌<◌, ◌+◌, ◌^◌, ◌⊎◌, ℕ, List, [], ◌∷◌, ◌++◌, length, take, drop}
use Rattle.std.specs.Int.{w64, from_be_bytes, bytes_high_first}
use Rattle.std.specs.List.{Contains}
use Rattle.std.proofs.Common.{codes}
use Rattle.amqp_model.specs.Term.{Descriptor, name, code}
use Rattle.amqp_model.specs.Spelling.{Names}
use Rattle.amqp_lookahead.specs.State.{State, after_look}

-- Some of the next bytes were looked at, at most 64.
abbrev pub LooksOn : State → State → Type 0
LooksOn st st' = (n : ℕ) × (n ≤ 64) × (n ≤ length st.rest) × (st' ≡ after_look n st)

-- The sections of a message, by the codes and the names of their descriptors.
abbrev pub sections : List (ℕ × List ℕ)
sections =
    (0x70, codes "amqp:header:list")
    ∷ (0x71, codes "amqp:delivery-annotations:map")
    ∷ (0x72, codes "amqp:message-annotations:map")
    ∷ (0x73, codes "amqp:properties:list")
    ∷ (0x74, codes "amqp:application-properties:map")
    ∷ (0x75, codes "amqp:data:binary")
    ∷ (0x76, codes "amqp:amqp-sequence:list")
    ∷ (0x77, codes "amqp:amqp-value:*")
    ∷ (0x78, codes "amqp:footer:map")
    ∷ []

-- The descriptor is the code or the name of the section with this code.
abbrev pub IsOfSection : ℕ → Descriptor → Type 0
IsOfSection c d = (s : List ℕ) × Contains sections (c, s) × ((d ≡ code c) ⊎ (d ≡ name s))

-- The bytes begin as a described value with the descriptor of the section with this code, in any of its spellings, which
-- ends within 64 bytes.
pub record IsSectionAhead (rest : List ℕ) (c : ℕ) : Type 0 where
  pub own : List ℕ
  pub after : List ℕ
  pub split : rest ≡ (0 ∷ own) ++ after
  pub few : length (0 ∷ own) ≤ 64
  pub descriptor : Descriptor
  pub spelled : Names descriptor own
  pub is : IsOfSection c descriptor

-- These bytes, which end within 64, are the name of the section with this code.
abbrev pub IsNameAhead : ℕ → ℕ → List ℕ → ℕ → Type 0
IsNameAhead start len rest c = (start + len ≤ 64) × (start + len ≤ length rest) × IsOfSection c (name (take len (drop start rest)))

-- The same behind a size of four bytes, before which there are two others.
abbrev pub IsLongNameAhead : List ℕ → ℕ → Type 0
IsLongNameAhead rest c = (n : ℕ) × (n < 256 ^ 4) × (take 4 (drop 2 rest) ≡ bytes_high_first 4 n) × IsNameAhead 6 n rest c

-- Behind two bytes there are eight that are the code of the section.
abbrev pub IsLongCodeAhead : List ℕ → ℕ → Type 0
IsLongCodeAhead rest c = (10 ≤ length rest) × IsOfSection c (code (from_be_bytes w64 (take 8 (drop 2 rest))))
