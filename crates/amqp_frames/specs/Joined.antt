-- What a transfer makes of its delivery.
use Rattle.std.specs.Prelude.{◌≡◌, ℕ, true, false, List, Option, None, Some}
use Rattle.amqp_performatives.specs.declared.transfer.Transfer.{Transfer}
use Rattle.amqp_frames.specs.Deliveries.{Joins}
use Rattle.amqp_frames.specs.declared.deliveries.Delivery.{Delivery}
use Rattle.amqp_frames.specs.declared.deliveries.Joined.{Joined}
use Rattle.amqp_frames.specs.declared.deliveries.Joined.TheVariants.{More, Whole, Aborted}

-- After an error the delivery is as it was. Its message may have more capacity.
pub record IsKept (before after : Delivery) : Type 0 where
  pub fields : after ≡ record before { message = after.message }
  pub message : after.message.items ≡ before.message.items

abbrev pub AreKept : Option Delivery → Option Delivery → Type 0
AreKept None after = after ≡ None
AreKept (Some before) None = ⊥
AreKept (Some before) (Some after) = IsKept before after

-- the delivery with a transfer more
abbrev pub HasJoined : Option Delivery → Transfer → List ℕ → Option Delivery → Type 0
HasJoined before t payload None = ⊥
HasJoined before t payload (Some after) = Joins before t payload after

-- By the delivery that was open, the transfer with its payload, what is answered, and the delivery that is open then.
abbrev pub IsAnswer : Option Delivery → Transfer → List ℕ → Joined → Option Delivery → Type 0
IsAnswer before t payload More after = (t.aborted ≡ false) × (t.more ≡ true) × HasJoined before t payload after
IsAnswer before t payload (Whole d) after = (t.aborted ≡ false) × (t.more ≡ false) × Joins before t payload d × (after ≡ None)
IsAnswer before t payload Aborted after = (t.aborted ≡ true) × (after ≡ None)
