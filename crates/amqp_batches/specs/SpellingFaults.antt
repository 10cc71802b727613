-- Where bytes are no section and no batch, and what is wrong there (Part 3, section 3.2).
use Rattle.std.specs.Prelude.{◌≡◌, List, ℕ, ◌++◌}
use Rattle.amqp_wire.specs.declared.error.Error.{Error}
use Rattle.amqp_wire.specs.declared.error.Error.TheVariants.{WrongDescriptor}
use Rattle.amqp_lookahead.specs.Sections.{IsSectionAhead}
use Rattle.amqp_decoder.specs.Misspelled.{IsMisspelling}
use Rattle.amqp_codec.specs.TermType.{TermType}
use Rattle.amqp_codec.specs.Reading.{Reading, IsUnreadable, IsUnspelled}
use Rattle.amqp_batches.specs.Spellings.{IsTerm, IsSection, Are}

-- Which errors report a fault at the start of the bytes.
abbrev pub Faults : Type 1
Faults = List ℕ → Error → Type 0

-- If the error says of bytes that they are no term, none of these begins with one.
abbrev pub IsNoTerm : Faults
IsNoTerm at e = IsMisspelling e → IsUnspelled e at

-- An input from which nothing is read has the fault that is reported.
abbrev pub IsRefusedFor : {T : Type 0} → Reading T → Faults → Type 0
IsRefusedFor r fault = (input : List ℕ) (e : Error) → IsUnreadable r input e → fault input e

-- Behind some whole sections of this kind another one begins, and is none.
pub record IsRunFault {T : Type 0} (c : ℕ) (u : TermType T) (input : List ℕ) (e : Error) : Type 0 where
  pub bytes : List ℕ
  pub values : List T
  pub at : List ℕ
  pub split : input ≡ bytes ++ at
  pub are : Are (IsSection c (IsTerm u)) bytes values at
  pub next : IsSectionAhead at c
  pub has : IsNoTerm at e

-- What begins as the section of this code has the fault, or another thing comes next.
pub data IsSectionFault (c : ℕ) (fault : Faults) (input : List ℕ) (e : Error) : Type 0 where
  begun : IsSectionAhead input c → fault input e → IsSectionFault c fault input e
  other : (IsSectionAhead input c → ⊥) → e ≡ WrongDescriptor → IsSectionFault c fault input e
