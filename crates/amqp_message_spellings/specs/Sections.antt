-- A message as the bytes of its sections (Part 3, section 3.2).
use Rattle.std.specs.Prelude.{◌≡◌, ℕ, List, ◌++◌}
use Rattle.amqp_lookahead.specs.Sections.{IsSectionAhead}
use Rattle.amqp_lengths.specs.Lengths.{IsTerm as IsWholeTerm}
use Rattle.amqp_section_slices.specs.declared.section_kind.SectionKind.{SectionKind}
use Rattle.amqp_section_slices.specs.Kinds.{code_of}
use Rattle.amqp_batches.specs.Spellings.{Spells, Are}

-- One section, which is one whole term, by the code of its kind.
abbrev pub IsOneSection : Spells ℕ
IsOneSection b c more = IsSectionAhead (b ++ more) c × IsWholeTerm 128 b

-- Sections one after another, by the codes of their kinds.
abbrev pub AreSections : Spells (List ℕ)
AreSections b cs more = Are IsOneSection b cs more

abbrev pub HasSections : List ℕ → List ℕ → Type 0
HasSections b more = (cs : List ℕ) × AreSections b cs more

-- The first of some sections, before these others: its kind, its bytes, and what follows it.
pub record IsNextOf (b : List ℕ) (c : ℕ) (cs : List ℕ) (more : List ℕ) (kind : SectionKind) (bytes rest : List ℕ) : Type 0 where
  pub others : List ℕ
  pub is : b ≡ bytes ++ others
  pub left : rest ≡ others ++ more
  pub code : code_of kind ≡ c
  pub are : AreSections others cs more
