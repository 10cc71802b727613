-- Where bytes are no body of any kind, and what is wrong there (Part 3, sections 3.2.6 to 3.2.8).
use Rattle.std.specs.Prelude.{◌≡◌, ℕ, List}
use Rattle.amqp_wire.specs.declared.error.Error.{Error}
use Rattle.amqp_wire.specs.declared.error.Error.TheVariants.{WrongDescriptor}
use Rattle.amqp_lookahead.specs.Sections.{IsSectionAhead}
use Rattle.amqp_codec.specs.TermType.{TermType}
use Rattle.amqp_sections.specs.declared.data.Data.{Data}
use Rattle.amqp_sections.specs.declared.amqp_sequence.AmqpSequence.{AmqpSequence}
use Rattle.amqp_batches.specs.SpellingFaults.{IsNoTerm, IsRunFault}

-- The group whose section comes next has the fault; or that section is none of a body's; or no section comes next.
pub data IsBodyFault {T : Type 0} (data_ : TermType Data) (sequence : TermType (AmqpSequence T)) (input : List ℕ) (e : Error) : Type 0 where
  in_value : IsSectionAhead input 0x77 → IsNoTerm input e → IsBodyFault data_ sequence input e
  in_data : IsSectionAhead input 0x75 → IsRunFault 0x75 data_ input e → IsBodyFault data_ sequence input e
  in_sequence : IsSectionAhead input 0x76 → IsRunFault 0x76 sequence input e → IsBodyFault data_ sequence input e
  no_body : {c : ℕ} → IsSectionAhead input c → (c ≡ 0x75 → ⊥) → (c ≡ 0x76 → ⊥) → (c ≡ 0x77 → ⊥) → e ≡ WrongDescriptor
      → IsBodyFault data_ sequence input e
  no_section : ((c : ℕ) → IsSectionAhead input c → ⊥) → IsNoTerm input e → IsBodyFault data_ sequence input e
