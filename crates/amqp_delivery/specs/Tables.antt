-- The tables of the delivery states that hold an error, a map or an outcome, and of the sums (Part 3, section 3.4; Part 4, section 4.5.6).
use Rattle.std.specs.Prelude.{option_map}
use Rattle.amqp_model.specs.FieldType.{normal}
use Rattle.amqp_sums.specs.Types.{inl, inr, codes, refl, by_norm, TermType, boolean_type, mandatory, optional}
use Rattle.amqp_sums.specs.Types.{composite, none, field, ◌▸◌, plain, Table, Choices, no_more, member, Chosen, SumOf, sum_of}
use Rattle.amqp_primitives.specs.Types.{binary_type}
use Rattle.amqp_errors.specs.FieldsType.{fields_type}
use Rattle.amqp_errors.specs.Tables.{error, norm_error}
use Rattle.amqp_plain_states.specs.Tables.{accepted, received, released, declared}
use Rattle.amqp_delivery.specs.declared.modified.Modified.{Modified}
use Rattle.amqp_delivery.specs.declared.rejected.Rejected.{Rejected}
use Rattle.amqp_delivery.specs.declared.transactional_state.TransactionalState.{TransactionalState}
use Rattle.amqp_delivery.specs.declared.state.DeliveryState.{DeliveryState}
use Rattle.amqp_delivery.specs.declared.state.DeliveryState.TheVariants as state
use Rattle.amqp_delivery.specs.declared.outcome.Outcome.{Outcome}
use Rattle.amqp_delivery.specs.declared.outcome.Outcome.TheVariants as outcome_of

abbrev pub norm_rejected : Rejected → Rejected
norm_rejected v = record v { error = option_map norm_error v.error }

-- Part 3, section 3.4.3
abbrev pub rejected : Table Rejected
rejected = record {
  code = 0x25;
  name = codes "amqp:rejected:list";
  fields =
      field (λ v. v.error) (optional (composite error) refl refl)
      ▸ none;
  norm = by_norm norm_rejected;
  norm_is = λ v. (refl, tt);
  is_small = refl;
}

-- Part 3, section 3.4.5
abbrev pub modified : Table Modified
modified = plain 0x27 (codes "amqp:modified:list")
    (field (λ v. v.delivery_failed) (optional boolean_type refl refl)
    ▸ field (λ v. v.undeliverable_here) (optional boolean_type refl refl)
    ▸ field (λ v. v.message_annotations) (optional fields_type refl refl)
    ▸ none)
    refl refl

-- The outcomes in their order, and the one that a value is.
abbrev pub ends : Choices Outcome
ends =
    member accepted outcome_of.Accepted
    (member rejected outcome_of.Rejected
    (member released outcome_of.Released
    (member modified outcome_of.Modified
    (member declared outcome_of.Declared
    no_more))))

abbrev pub end_of : (v : Outcome) → Chosen ends v
end_of (outcome_of.Accepted v) = (inl v, refl)
end_of (outcome_of.Rejected v) = (inr (inl v), refl)
end_of (outcome_of.Released v) = (inr (inr (inl v)), refl)
end_of (outcome_of.Modified v) = (inr (inr (inr (inl v))), refl)
end_of (outcome_of.Declared v) = (inr (inr (inr (inr (inl v)))), refl)

-- Part 3, section 3.4: an outcome is the member whose descriptor stands there
abbrev pub outcomes : SumOf Outcome
outcomes = record {
  choices = ends;
  choice = end_of;
  apart = refl;
  chosen = (λ v. refl, (λ v. refl, (λ v. refl, (λ v. refl, (λ v. refl, tt)))));
}

abbrev pub outcome : TermType Outcome
outcome = sum_of outcomes

abbrev pub norm_transactional_state : TransactionalState → TransactionalState
norm_transactional_state v = record v { outcome = option_map (normal outcome.norm) v.outcome }

-- Part 4, section 4.5.6
abbrev pub transactional_state : Table TransactionalState
transactional_state = record {
  code = 0x34;
  name = codes "amqp:transactional-state:list";
  fields =
      field (λ v. v.txn_id) (mandatory binary_type refl refl)
      ▸ field (λ v. v.outcome) (optional outcome refl refl)
      ▸ none;
  norm = by_norm norm_transactional_state;
  norm_is = λ v. (refl, (refl, tt));
  is_small = refl;
}

-- The states in their order, and the one that a value is.
abbrev pub states : Choices DeliveryState
states =
    member received state.Received
    (member accepted state.Accepted
    (member rejected state.Rejected
    (member released state.Released
    (member modified state.Modified
    (member declared state.Declared
    (member transactional_state state.TransactionalState
    no_more))))))

abbrev pub state_of : (v : DeliveryState) → Chosen states v
state_of (state.Received v) = (inl v, refl)
state_of (state.Accepted v) = (inr (inl v), refl)
state_of (state.Rejected v) = (inr (inr (inl v)), refl)
state_of (state.Released v) = (inr (inr (inr (inl v))), refl)
state_of (state.Modified v) = (inr (inr (inr (inr (inl v)))), refl)
state_of (state.Declared v) = (inr (inr (inr (inr (inr (inl v))))), refl)
state_of (state.TransactionalState v) = (inr (inr (inr (inr (inr (inr (inl v)))))), refl)

-- Part 3, section 3.4: of a state likewise
abbrev pub delivery_states : SumOf DeliveryState
delivery_states = record {
  choices = states;
  choice = state_of;
  apart = refl;
  chosen = (λ v. refl, (λ v. refl, (λ v. refl, (λ v. refl, (λ v. refl, (λ v. refl, (λ v. refl, tt)))))));
}

abbrev pub delivery_state : TermType DeliveryState
delivery_state = sum_of delivery_states
