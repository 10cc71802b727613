-- Which member a delivery state or an outcome is (Part 3, section 3.4).
use Rattle.std.specs.Prelude.{Bool, true, false, Option, Some, None}
use Rattle.amqp_plain_states.specs.declared.accepted.Accepted.{Accepted}
use Rattle.amqp_plain_states.specs.declared.declared.Declared.{Declared}
use Rattle.amqp_plain_states.specs.declared.received.Received.{Received}
use Rattle.amqp_plain_states.specs.declared.released.Released.{Released}
use Rattle.amqp_delivery.specs.declared.modified.Modified.{Modified}
use Rattle.amqp_delivery.specs.declared.rejected.Rejected.{Rejected}
use Rattle.amqp_delivery.specs.declared.state.DeliveryState.{DeliveryState}
use Rattle.amqp_delivery.specs.declared.outcome.Outcome.{Outcome}
use Rattle.amqp_delivery.specs.declared.state.DeliveryState.TheVariants as state
use Rattle.amqp_delivery.specs.declared.outcome.Outcome.TheVariants as outcome

abbrev pub state_received : DeliveryState → Option Received
state_received (state.Received v) = Some v
state_received _ = None

abbrev pub state_accepted : DeliveryState → Option Accepted
state_accepted (state.Accepted v) = Some v
state_accepted _ = None

abbrev pub state_rejected : DeliveryState → Option Rejected
state_rejected (state.Rejected v) = Some v
state_rejected _ = None

abbrev pub state_released : DeliveryState → Option Released
state_released (state.Released v) = Some v
state_released _ = None

abbrev pub state_modified : DeliveryState → Option Modified
state_modified (state.Modified v) = Some v
state_modified _ = None

abbrev pub state_declared : DeliveryState → Option Declared
state_declared (state.Declared v) = Some v
state_declared _ = None

abbrev pub outcome_accepted : Outcome → Option Accepted
outcome_accepted (outcome.Accepted v) = Some v
outcome_accepted _ = None

abbrev pub outcome_rejected : Outcome → Option Rejected
outcome_rejected (outcome.Rejected v) = Some v
outcome_rejected _ = None

abbrev pub outcome_released : Outcome → Option Released
outcome_released (outcome.Released v) = Some v
outcome_released _ = None

abbrev pub outcome_modified : Outcome → Option Modified
outcome_modified (outcome.Modified v) = Some v
outcome_modified _ = None

abbrev pub outcome_declared : Outcome → Option Declared
outcome_declared (outcome.Declared v) = Some v
outcome_declared _ = None

-- The delivery ends in all of them but that it was received, and that it is part of a transaction.
abbrev pub is_terminal : DeliveryState → Bool
is_terminal (state.Received v) = false
is_terminal (state.TransactionalState v) = false
is_terminal _ = true

-- An outcome as a state.
abbrev pub as_state : Outcome → DeliveryState
as_state (outcome.Accepted v) = state.Accepted v
as_state (outcome.Rejected v) = state.Rejected v
as_state (outcome.Released v) = state.Released v
as_state (outcome.Modified v) = state.Modified v
as_state (outcome.Declared v) = state.Declared v
