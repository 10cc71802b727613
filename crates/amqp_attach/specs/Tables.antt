-- The table of `Attach` (Part 2, section 2.7.3), and the performatives as one type (Part 2, section 2.7).
use Rattle.std.specs.Prelude.{List, Option, option_map}
use Rattle.amqp_model.specs.FieldType.{normal}
use Rattle.amqp_sums.specs.Types.{inl, inr, codes, refl, by_norm, TermType, boolean_type, uint_type, ulong_type, string_type, symbol_type}
use Rattle.amqp_sums.specs.Types.{boxed, option_of, composite, mandatory, optional, default, none, field, ◌▸◌, Table}
use Rattle.amqp_sums.specs.Types.{Choices, no_more, member, Chosen, SumOf, sum_of}
use Rattle.amqp_codec.specs.laws.MapReading.{map_of}
use Rattle.amqp_containers.specs.MultipleFields.{multiple, normal_multiple}
use Rattle.amqp_primitives.specs.Types.{binary_type}
use Rattle.amqp_primitives.specs.declared.binary.Binary.{Binary}
use Rattle.amqp_restricted_types.specs.Defaults.{false_by_default}
use Rattle.amqp_restricted_types.specs.Transport.{handle_type, role_type, sender_settle_mode_type, receiver_settle_mode_type}
use Rattle.amqp_restricted_types.specs.TransportDefaults.{mixed_by_default, first_by_default}
use Rattle.amqp_errors.specs.FieldsType.{fields_type}
use Rattle.amqp_delivery.specs.Tables.{delivery_state}
use Rattle.amqp_delivery.specs.declared.state.DeliveryState.{DeliveryState}
use Rattle.amqp_termini.specs.Tables.{source, target_archetype}
use Rattle.amqp_performatives.specs.Tables.{opening, begin, flow, transfer, disposition, detach, ending, close}
use Rattle.amqp_attach.specs.declared.attach.Attach.{Attach}
use Rattle.amqp_attach.specs.declared.performative.Performative.{Performative}
use Rattle.amqp_attach.specs.declared.performative.Performative.TheVariants as performative_of

-- Part 2, section 2.7.3: of unsettled, the states of deliveries, or null, by their tags
abbrev pub unsettled_type : TermType (List (Binary × Option DeliveryState))
unsettled_type = map_of binary_type (option_of delivery_state)

abbrev pub norm_attach : Attach → Attach
norm_attach v = record v {
  source = option_map (normal (boxed (composite source)).norm) v.source;
  target = option_map (normal (boxed target_archetype).norm) v.target;
  unsettled = option_map (normal unsettled_type.norm) v.unsettled;
  offered_capabilities = normal_multiple symbol_type refl v.offered_capabilities;
  desired_capabilities = normal_multiple symbol_type refl v.desired_capabilities;
}

-- Part 2, section 2.7.3
abbrev pub attach : Table Attach
attach = record {
  code = 0x12;
  name = codes "amqp:attach:list";
  fields =
      field (λ v. v.name) (mandatory string_type refl refl)
      ▸ field (λ v. v.handle) (mandatory handle_type refl refl)
      ▸ field (λ v. v.role) (mandatory role_type refl refl)
      ▸ field (λ v. v.snd_settle_mode) (default sender_settle_mode_type refl refl mixed_by_default)
      ▸ field (λ v. v.rcv_settle_mode) (default receiver_settle_mode_type refl refl first_by_default)
      ▸ field (λ v. v.source) (optional (boxed (composite source)) refl refl)
      ▸ field (λ v. v.target) (optional (boxed target_archetype) refl refl)
      ▸ field (λ v. v.unsettled) (optional unsettled_type refl refl)
      ▸ field (λ v. v.incomplete_unsettled) (default boolean_type refl refl false_by_default)
      ▸ field (λ v. v.initial_delivery_count) (optional uint_type refl refl)
      ▸ field (λ v. v.max_message_size) (optional ulong_type refl refl)
      ▸ field (λ v. v.offered_capabilities) (multiple symbol_type refl refl (λ v. tt))
      ▸ field (λ v. v.desired_capabilities) (multiple symbol_type refl refl (λ v. tt))
      ▸ field (λ v. v.properties) (optional fields_type refl refl)
      ▸ none;
  norm = by_norm norm_attach;
  norm_is = λ v. (refl, (refl, (refl, (refl, (refl, (refl, (refl, (refl, (refl, (refl, (refl, (refl, (refl, (refl, tt))))))))))))));
  is_small = refl;
}

-- The performatives in their order, and the one that a value is.
abbrev pub choices_of_performatives : Choices Performative
choices_of_performatives =
    member opening performative_of.Open
    (member begin performative_of.Begin
    (member attach performative_of.Attach
    (member flow performative_of.Flow
    (member transfer performative_of.Transfer
    (member disposition performative_of.Disposition
    (member detach performative_of.Detach
    (member ending performative_of.End
    (member close performative_of.Close
    no_more))))))))

abbrev pub performative_chosen : (v : Performative) → Chosen choices_of_performatives v
performative_chosen (performative_of.Open v) = (inl v, refl)
performative_chosen (performative_of.Begin v) = (inr (inl v), refl)
performative_chosen (performative_of.Attach v) = (inr (inr (inl v)), refl)
performative_chosen (performative_of.Flow v) = (inr (inr (inr (inl v))), refl)
performative_chosen (performative_of.Transfer v) = (inr (inr (inr (inr (inl v)))), refl)
performative_chosen (performative_of.Disposition v) = (inr (inr (inr (inr (inr (inl v))))), refl)
performative_chosen (performative_of.Detach v) = (inr (inr (inr (inr (inr (inr (inl v)))))), refl)
performative_chosen (performative_of.End v) = (inr (inr (inr (inr (inr (inr (inr (inl v))))))), refl)
performative_chosen (performative_of.Close v) = (inr (inr (inr (inr (inr (inr (inr (inr (inl v)))))))), refl)

-- Part 2, section 2.7: a performative is the member whose descriptor stands there
abbrev pub performatives : SumOf Performative
performatives = record {
  choices = choices_of_performatives;
  choice = performative_chosen;
  apart = refl;
  chosen = (λ v. refl, (λ v. refl, (λ v. refl, (λ v. refl, (λ v. refl, (λ v. refl, (λ v. refl, (λ v. refl, (λ v. refl, tt)))))))));
}

abbrev pub performative : TermType Performative
performative = sum_of performatives
