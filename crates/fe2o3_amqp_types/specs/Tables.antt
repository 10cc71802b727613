-- The tables of the standard: fields of composites, members of sums, numbers and texts. It defines nothing.
pub use Rattle.amqp_codec.specs.Fields.{Fields, none, field}
pub use Rattle.amqp_codec.specs.Slots.{mandatory, optional, default}
pub use Rattle.amqp_containers.specs.MultipleFields.{multiple, mandatory_multiple, normal_multiple}
pub use Rattle.amqp_containers.specs.Several.{AreLeaves}
pub use Rattle.amqp_codec.specs.ListType.{ListTable, list_of}
pub use Rattle.amqp_codec.specs.Composite.{Table, composite}
pub use Rattle.amqp_codec.specs.Fieldless.{fieldless, has_none}
pub use Rattle.amqp_sums.specs.Choices.{Choices, no_more, member, Chosen, SumOf, sum_of, sum_writing, sum_one, sum_agreement}
pub use Rattle.amqp_sums.specs.Restricted.{IsDistinct, restricted_number, restricted_text}
-- Part 2, section 2.7
pub use Rattle.amqp_performatives.specs.Tables.{opening, begin, flow, transfer, disposition, detach, ending, close}
pub use Rattle.amqp_attach.specs.Tables.{attach, performatives, performative}
-- Part 2, section 2.8
pub use Rattle.amqp_restricted_types.specs.Transport.{role_numbers, sender_settle_mode_numbers, receiver_settle_mode_numbers}
pub use Rattle.amqp_errors.specs.Tables.{error}
pub use Rattle.amqp_errors.specs.Conditions.{condition_texts}
pub use Rattle.amqp_errors.specs.Texts.{amqp_error_texts, connection_error_texts, session_error_texts, link_error_texts}
-- Part 3, section 3.2
pub use Rattle.amqp_message_headers.specs.Tables.{header, properties}
-- Part 3, section 3.4
pub use Rattle.amqp_plain_states.specs.Tables.{received, accepted, released}
pub use Rattle.amqp_delivery.specs.Tables.{rejected, modified, delivery_states, delivery_state, outcomes, outcome}
-- Part 3, section 3.5
pub use Rattle.amqp_termini.specs.Tables.{source, target, target_archetypes, target_archetype}
pub use Rattle.amqp_lifetimes.specs.Tables.{lifetime_policies, lifetime_policy}
pub use Rattle.amqp_lifetimes.specs.Tables.{delete_on_close, delete_on_no_links, delete_on_no_messages, delete_on_no_links_or_messages}
pub use Rattle.amqp_restricted_types.specs.Termini.{terminus_durability_numbers, terminus_expiry_policy_texts, distribution_mode_texts}
-- Part 4, section 4.5
pub use Rattle.amqp_termini.specs.Tables.{coordinator}
pub use Rattle.amqp_plain_states.specs.Tables.{declare, discharge, declared}
pub use Rattle.amqp_delivery.specs.Tables.{transactional_state}
pub use Rattle.amqp_restricted_types.specs.Transactions.{txn_capability_texts}
pub use Rattle.amqp_errors.specs.Texts.{transaction_error_texts}
-- Part 5, section 5.3.3
pub use Rattle.amqp_sasl.specs.Tables.{sasl_mechanisms, sasl_init, sasl_challenge, sasl_response, sasl_outcome}
pub use Rattle.amqp_restricted_types.specs.Security.{sasl_code_numbers}
