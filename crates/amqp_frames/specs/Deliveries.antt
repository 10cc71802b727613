-- Deliveries: the transfers of one link, joined (Part 2, sections 2.6.14 and 2.7.5).
use Rattle.std.specs.Prelude.{◌≡◌, ℕ, ◌+◌, ◌<◌, ◌≤◌, Bool, true, false, List, ◌++◌, length, codes, Option, None, Some, IfSome, IsSome, if◌then◌else◌}
use Rattle.std.specs.Option.{unwrap_or}
use Rattle.amqp_delivery.specs.Members.{is_terminal}
use Rattle.amqp_delivery.specs.declared.state.DeliveryState.{DeliveryState}
use Rattle.amqp_performatives.specs.declared.transfer.Transfer.{Transfer}
use Rattle.amqp_frames.specs.declared.deliveries.Delivery.{Delivery}
use Rattle.amqp_frames.specs.declared.delivery_error.DeliveryError.{DeliveryError}
use Rattle.amqp_frames.specs.declared.delivery_error.DeliveryError.TheVariants.{NoDeliveryId, NoDeliveryTag}
use Rattle.amqp_frames.specs.declared.delivery_error.DeliveryError.TheVariants.{OtherDeliveryId, OtherDeliveryTag, OtherMessageFormat}
use Rattle.amqp_frames.specs.declared.delivery_error.DeliveryError.TheVariants.{AboveLimit, Memory}

-- A flag that a transfer omits is false, unless an earlier transfer of the delivery has set it.
abbrev pub later_flag : Bool → Option Bool → Bool
later_flag true _ = true
later_flag false flag = unwrap_or flag false

-- The delivery has a terminal state.
abbrev pub has_ended : Option DeliveryState → Bool
has_ended None = false
has_ended (Some state) = is_terminal state

-- The last state that a transfer has counts, until one is terminal.
abbrev pub later_state : Option DeliveryState → Option DeliveryState → Option DeliveryState
later_state before None = before
later_state before (Some state) = if has_ended before then before else Some state

-- What the first transfer of a delivery says of it.
pub record Begins (t : Transfer) (payload : List ℕ) (d : Delivery) : Type 0 where
  pub id : t.delivery_id ≡ Some d.delivery_id
  pub tag : t.delivery_tag ≡ Some d.delivery_tag
  pub format : d.message_format ≡ unwrap_or t.message_format 0
  pub settled : d.settled ≡ unwrap_or t.settled false
  pub mode : d.rcv_settle_mode ≡ t.rcv_settle_mode
  pub state : d.state ≡ t.state
  pub resume : d.resume ≡ t.resume
  pub batchable : d.batchable ≡ t.batchable
  pub message : d.message.items ≡ payload

-- What a later transfer adds to it.
pub record Continues (before : Delivery) (t : Transfer) (payload : List ℕ) (d : Delivery) : Type 0 where
  pub id : d.delivery_id ≡ before.delivery_id
  pub tag : d.delivery_tag ≡ before.delivery_tag
  pub format : d.message_format ≡ before.message_format
  pub settled : d.settled ≡ later_flag before.settled t.settled
  pub mode : d.rcv_settle_mode ≡ before.rcv_settle_mode
  pub state : d.state ≡ later_state before.state t.state
  pub resume : d.resume ≡ before.resume
  pub batchable : d.batchable ≡ before.batchable
  pub message : d.message.items ≡ before.message.items ++ payload

-- A transfer joined to the delivery that is open, or to none.
abbrev pub Joins : Option Delivery → Transfer → List ℕ → Delivery → Type 0
Joins None = Begins
Joins (Some before) = Continues before

-- how many bytes of its message have come
abbrev pub length_of : Option Delivery → ℕ
length_of None = 0
length_of (Some d) = length d.message.items

-- The first transfer of a delivery has an id and a tag.
pub record MayBegin (t : Transfer) : Type 0 where
  pub id : IsSome t.delivery_id
  pub tag : IsSome t.delivery_tag

-- A later transfer omits the id, or has that of its delivery. So for its tag and its format.
abbrev pub SameId : Delivery → Transfer → Type 0
SameId before t = IfSome t.delivery_id (λ id. id ≡ before.delivery_id)

abbrev pub SameTag : Delivery → Transfer → Type 0
SameTag before t = IfSome t.delivery_tag (λ tag. tag.0.items ≡ before.delivery_tag.0.items)

abbrev pub SameFormat : Delivery → Transfer → Type 0
SameFormat before t = IfSome t.message_format (λ format. format ≡ before.message_format)

-- A later one repeats what it doesn't omit of id, tag and format.
pub record MayContinue (before : Delivery) (t : Transfer) : Type 0 where
  pub id : SameId before t
  pub tag : SameTag before t
  pub format : SameFormat before t

abbrev pub MayCome : Option Delivery → Transfer → Type 0
MayCome None = MayBegin
MayCome (Some before) = MayContinue before

-- ---- why a transfer is refused

-- For each error, the rule that is broken, and that no rule before it is.
abbrev pub DeliveryFault : ℕ → Option Delivery → Transfer → List ℕ → DeliveryError → Type 0
DeliveryFault most before t payload AboveLimit = MayCome before t × (t.aborted ≡ false) × (most < length_of before + length payload)
DeliveryFault most before t payload Memory = MayCome before t × (t.aborted ≡ false) × (length_of before + length payload ≤ most)
DeliveryFault most None t payload NoDeliveryId = t.delivery_id ≡ None
DeliveryFault most None t payload NoDeliveryTag = IsSome t.delivery_id × (t.delivery_tag ≡ None)
DeliveryFault most (Some before) t payload OtherDeliveryId = SameId before t → ⊥
DeliveryFault most (Some before) t payload OtherDeliveryTag = SameId before t × (SameTag before t → ⊥)
DeliveryFault most (Some before) t payload OtherMessageFormat = SameId before t × SameTag before t × (SameFormat before t → ⊥)
DeliveryFault most before t payload _ = ⊥

-- the error condition of the standard (Part 2, sections 2.8.15 and 2.8.18)
abbrev pub condition_of : DeliveryError → List ℕ
condition_of AboveLimit = codes "amqp:link:message-size-exceeded"
condition_of Memory = codes "amqp:internal-error"
condition_of _ = codes "amqp:invalid-field"
