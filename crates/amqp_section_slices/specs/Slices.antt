-- A message as the bytes of its sections (Part 3, section 3.2).
use Rattle.std.specs.Prelude.{◌≡◌, ◌⊎◌, ◌++◌, ℕ, List}
use Rattle.amqp_wire.specs.declared.error.Error.{Error}
use Rattle.amqp_wire.specs.declared.error.Error.TheVariants.{NotSection, Depth}
use Rattle.amqp_lookahead.specs.Sections.{IsSectionAhead}
use Rattle.amqp_lengths.specs.Fronts.{IsFront}
use Rattle.amqp_lengths.specs.Lengths.{IsTerm}
use Rattle.amqp_lengths.specs.Faults.{TermFault}
use Rattle.amqp_section_slices.specs.declared.section_kind.SectionKind.{SectionKind}
use Rattle.amqp_section_slices.specs.Kinds.{code_of}

-- The input is a section of this kind, which is one whole term, and what follows it.
pub record BeginsWithSection (input : List ℕ) (kind : SectionKind) (bytes rest : List ℕ) : Type 0 where
  pub ahead : IsSectionAhead input (code_of kind)
  pub term : IsTerm 128 bytes
  pub split : input ≡ bytes ++ rest

-- The input begins with no term, for this reason, and there are so many bytes from the place of the fault on; or with a term that is no section.
abbrev pub IsNoSection : List ℕ → Error → ℕ → Type 0
IsNoSection input e left = TermFault Depth 128 input e left
    ⊎ ((e ≡ NotSection) × ((n : ℕ) × IsFront (IsTerm 128) input n) × ((c : ℕ) → IsSectionAhead input c → ⊥))

-- The bytes of the sections that are still to be returned, and how many bytes of the message are before them.
pub record Remaining : Type 0 where
  pub rest : List ℕ
  pub taken : ℕ
