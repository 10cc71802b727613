-- Messages within limits of the caller.
use Rattle.std.proofs.Common.{ℕ, List, ◌↔◌, take}
use Rattle.amqp_wire.specs.declared.limits.Limits.{Limits}
use Rattle.amqp_wire.specs.Limits.{limit_of}
use Rattle.amqp_decoder.specs.State.{Has}
use Rattle.amqp_codec.specs.Reading.{BeginsWithin, BeginsWith}
use Rattle.amqp_batches.specs.Bounds.{AreAllowed, IsBoundByLimits}
use Rattle.amqp_batches.specs.laws.Bound.{bounded}
use Rattle.amqp_batches.specs.Spellings.{Spells}
use Rattle.amqp_batches.specs.laws.ReadAs.{IsReadAs}
use Rattle.amqp_batches.specs.WalkReading.{walk_reading, reading_via}
use Rattle.amqp_bodies.specs.Bodies.{Made}
use Rattle.amqp_messages.specs.declared.order.Order.{Order}
use Rattle.amqp_messages.specs.declared.order.Order.TheVariants.{Written}
use Rattle.amqp_messages.specs.declared.message.Message.{Message}
use Rattle.amqp_messages.specs.declared.strict.Strict.{Strict}
use Rattle.amqp_messages.specs.MessageWalk.{message_walk}
use Rattle.amqp_messages.specs.MessageKinds.{seven, spelled}
use Rattle.amqp_messages.specs.Messages.{readings_of, message_of, message_in}
use Rattle.amqp_messages.specs.laws.MessageLimits.{message_bound}
use Rattle.amqp_messages.specs.laws.KindsSpelled.{are_bound}
use Rattle.amqp_messages.specs.laws.MessageSpelled.{are_read}

module _ {S B : Type 0} (made : Made S B) {group : Spells S} (l : IsReadAs made.group group) where
  bound : (o : Order) → IsBoundByLimits (walk_reading (message_walk o (message_of made)))
  bound o = message_bound o (message_of made) (are_bound (seven S) (readings_of made.group) (spelled group) (are_read made l))

  pub message_bounded : (o : Order) (limits : Limits) (input : List ℕ) (v : Message B) (n : ℕ)
      → BeginsWithin limits (walk_reading (message_walk o (message_of made))) input v n
      ↔ (BeginsWith (walk_reading (message_walk o (message_of made))) input v n × Has (limit_of limits.bytes) n
      × AreAllowed limits (take n input))
  message_bounded o = bounded (walk_reading (message_walk o (message_of made))) (bound o)

  pub strict_bounded : (limits : Limits) (input : List ℕ) (v : Strict B) (n : ℕ)
      → BeginsWithin limits (reading_via (walk_reading (message_walk Written (message_of made))) message_in) input v n
      ↔ (BeginsWith (reading_via (walk_reading (message_walk Written (message_of made))) message_in) input v n
      × Has (limit_of limits.bytes) n × AreAllowed limits (take n input))
  strict_bounded =
      bounded (reading_via (walk_reading (message_walk Written (message_of made))) message_in)
      (λ st v b. bound Written st (message_in v) b)
