-- A strict message is one in any order.
use Rattle.std.proofs.Common.{◌≡◌, ℕ, List, length, subst}
use Rattle.amqp_wire.specs.declared.limits.Limits.{Limits}
use Rattle.amqp_model.specs.Term.{Term}
use Rattle.amqp_codec.specs.Reading.{Reading, BeginsWithin}
use Rattle.amqp_read_write.specs.Rewritten.{IsRewrittenWithin, IsReadAgain, IsOneText, IsOfNoOther, IsUnchanged}
use Rattle.amqp_batches.specs.WalkReading.{walk_reading, reading_via}
use Rattle.amqp_bodies.specs.Bodies.{Made}
use Rattle.amqp_messages.specs.declared.order.Order.TheVariants.{Any, Written}
use Rattle.amqp_messages.specs.declared.strict.Strict.{Strict}
use Rattle.amqp_messages.specs.MessageWalk.{message_walk}
use Rattle.amqp_messages.specs.Messages.{message_of, message_in}
use Rattle.amqp_messages.proofs.OrderLaws.{strict_begins, strict_whole}

module _ {S B : Type 0} (made : Made S B) where
  abbrev strict : Reading (Strict B)
  strict = reading_via (walk_reading (message_walk Written (message_of made))) message_in

  pub strict_message : (limits : Limits) (input : List ℕ) (v : Strict B) (n : ℕ) → BeginsWithin limits strict input v n
      → BeginsWithin limits (walk_reading (message_walk Any (message_of made))) input (message_in v) n × (n ≡ length input)
  strict_message limits input v n h =
      let k : BeginsWithin limits (walk_reading (message_walk Written (message_of made))) input (message_in v) n =
      record { after = h.after; read = h.read; left = h.left } in (
        strict_begins (message_of made) limits input (message_in v) n k,
        strict_whole (message_of made) limits input (message_in v) n k,
      )

  module _ (limits : Limits) {canons : Strict B → List Term} {input text : List ℕ} {n : ℕ}
      (h : IsRewrittenWithin limits strict canons input text n) where
    is_all : n ≡ length input
    is_all = (strict_message limits input h.value n h.read).1

    -- what is said of its length is said of the input's
    pub text_of_all : IsRewrittenWithin limits strict canons input text (length input)
    text_of_all = subst (IsRewrittenWithin limits strict canons input text) is_all h

    pub again_of_all : {follows : List ℕ → Type 0} {again : Strict B → Strict B} {kept lasts : Strict B → Type 0}
        → IsReadAgain strict follows again kept lasts input text n → IsReadAgain strict follows again kept lasts input text (length input)
    again_of_all {follows} {again} {kept} {lasts} k = subst (IsReadAgain strict follows again kept lasts input text) is_all k

    pub one_of_all : IsOneText strict canons input text n → IsOneText strict canons input text (length input)
    one_of_all k = subst (λ m. IsOneText strict canons input text m) is_all k

    pub other_of_all : {kept lasts : Strict B → Type 0} → IsOfNoOther strict canons kept lasts input text n
        → IsOfNoOther strict canons kept lasts input text (length input)
    other_of_all {kept} {lasts} k = subst (λ m. IsOfNoOther strict canons kept lasts input text m) is_all k

    pub unchanged_of_all : {lasts : Strict B → Type 0} → IsUnchanged strict canons lasts input text n
        → IsUnchanged strict canons lasts input text (length input)
    unchanged_of_all {lasts} k = subst (λ m. IsUnchanged strict canons lasts input text m) is_all k
