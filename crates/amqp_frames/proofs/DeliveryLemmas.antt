-- The state of a delivery after one more transfer.
use Rattle.std.proofs.Common.{◌≡◌, true, false, Option, None, Some, refl}
use Rattle.std.specs.Option.{is_some}
use Rattle.amqp_delivery.specs.declared.state.DeliveryState.{DeliveryState}
use Rattle.amqp_frames.specs.Deliveries.{later_state, has_ended}

pub later_taken : (before state : Option DeliveryState) → is_some state ≡ true → has_ended before ≡ false → state ≡ later_state before state
later_taken before None is ended = let no : false ≡ true = is in absurd (cc)
later_taken before (Some state) is ended = rw ended refl

pub later_left : (before state : Option DeliveryState) → has_ended before ≡ true → before ≡ later_state before state
later_left before None ended = refl
later_left before (Some state) ended = rw ended refl

pub none_later : (before state : Option DeliveryState) → is_some state ≡ false → before ≡ later_state before state
none_later before None is = refl
none_later before (Some state) is = let no : true ≡ false = is in absurd (cc)
