-- Messages are read as their groups are spelled (Part 3, section 3.2).
use Rattle.std.proofs.Common.{refl}
use Rattle.amqp_batches.specs.Spellings.{Spells}
use Rattle.amqp_batches.specs.laws.ReadAs.{IsReadAs, term_is_read}
use Rattle.amqp_batches.specs.WalkReading.{walk_reading, reading_via}
use Rattle.amqp_bodies.specs.Bodies.{Made}
use Rattle.amqp_messages.specs.declared.order.Order.TheVariants.{Any, Written}
use Rattle.amqp_messages.specs.MessageKinds.{seven, spelled, IsMessage, IsStrictMessage}
use Rattle.amqp_messages.specs.MessageWalk.{message_walk}
use Rattle.amqp_messages.specs.Messages.{readings_of, message_of, message_in}
use Rattle.amqp_messages.specs.laws.KindsSpelled.{AreReadAs, read_in_any_order, read_in_order}

module _ {S B : Type 0} (made : Made S B) {group : Spells S} (l : IsReadAs made.group group) where
  pub are_read : AreReadAs (seven S) (readings_of made.group) (spelled group)
  are_read =
      (term_is_read _, (term_is_read _, (term_is_read _, (term_is_read _, (term_is_read _, (l, (term_is_read _, tt)))))))

  pub message_is_read : IsReadAs (walk_reading (message_walk Any (message_of made))) (IsMessage made group)
  message_is_read = read_in_any_order (message_of made) (spelled group) are_read

  pub strict_is_read : IsReadAs (reading_via (walk_reading (message_walk Written (message_of made))) message_in) (IsStrictMessage made group)
  strict_is_read =
      let strict = read_in_order (message_of made) (spelled group) are_read refl in
      record {
        bound = λ st v b fresh h. strict.bound st (message_in v) b fresh h;
        spelled = λ input v n h. strict.spelled input (message_in v) n (record { after = h.after; read = h.read; left = h.left });
        read = λ b more v f.
            (let h = strict.read b more (message_in v) f in record { after = h.after; read = h.read; left = h.left });
      }
