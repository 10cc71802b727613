-- Which section of a message comes next (Part 3, section 3.2).
use Rattle.std.specs.Prelude.{◌≡◌, ◌<◌, ◌≤◌, ℕ, [], length, Option, Some, None}
use Rattle.amqp_wire.specs.declared.error.Error.TheVariants.{Misplaced}
use Rattle.amqp_lookahead.specs.Sections.{IsSectionAhead}
use Rattle.amqp_decoder.specs.State.{State}
use Rattle.amqp_decoder.specs.Sections.{NotTop}
use Rattle.amqp_decoder.specs.Places.{Located, Here}
use Rattle.amqp_codec.specs.Reading.{AreAlike}
use Rattle.amqp_batches.specs.Walk.{IsAtTop}
use Rattle.amqp_batches.specs.NoSections.{NoSection}
use Rattle.amqp_messages.specs.declared.order.Order.{Order}
use Rattle.amqp_messages.specs.MessageKinds.{behind_section}
use Rattle.amqp_messages.specs.Orders.{further, IsFull}

-- No further group is looked for; or the input ends there; or the section comes next and may stand there. At most some bytes are looked
-- at.
pub data FindsNext (o : Order) (left : ℕ) (st : State) (found : Option ℕ) (b : State) : Type 0 where
  full : IsFull o left → found ≡ None → b ≡ st → FindsNext o left st found b
  at_end : IsAtTop st → st.rest ≡ [] → found ≡ None → AreAlike st b → FindsNext o left st found b
  section : {c : ℕ} → IsAtTop st → (IsFull o left → ⊥) → IsSectionAhead st.rest c → further o left (behind_section c) < left → found ≡ Some c
      → AreAlike st b → FindsNext o left st found b

-- A container is open; or the section that comes next may not stand there; or none comes next.
pub data NextFault (o : Order) (left : ℕ) (st : State) (e : Located) : Type 0 where
  not_top : Here NotTop st e → NextFault o left st e
  misplaced : {c : ℕ} → (IsFull o left → ⊥) → IsSectionAhead st.rest c → left ≤ further o left (behind_section c) → e.error ≡ Misplaced
      → e.left ≡ length st.rest → NextFault o left st e
  not_section : {seen : State} → (IsFull o left → ⊥) → (st.rest ≡ [] → ⊥) → ((c : ℕ) → IsSectionAhead st.rest c → ⊥)
      → AreAlike st seen → NoSection seen e → NextFault o left st e
