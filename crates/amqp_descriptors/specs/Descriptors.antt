-- The descriptors of types (Part 1, section 1.5), and the names of their fields.
use Rattle.std.specs.Prelude.{ℕ, Option, Some, None, List, [], ◌∷◌, map, option_map, unwrap_or}
use Rattle.amqp_catalogue.specs.declared.type_name.TypeName.{TypeName}
use Rattle.amqp_catalogue.specs.declared.type_name.TypeName.TheVariants as line_type
use Rattle.amqp_plain_states.specs.Tables.{accepted, declare, declared, discharge, received, released}
use Rattle.amqp_delivery.specs.Tables.{modified, rejected, transactional_state}
use Rattle.amqp_errors.specs.Tables.{error}
use Rattle.amqp_attach.specs.Tables.{attach}
use Rattle.amqp_message_headers.specs.Tables.{header, properties}
use Rattle.amqp_performatives.specs.Tables.{begin, close, detach, disposition, ending, flow, opening, transfer}
use Rattle.amqp_sasl.specs.Tables.{sasl_challenge, sasl_init, sasl_mechanisms, sasl_outcome, sasl_response}
use Rattle.amqp_lifetimes.specs.Tables.{delete_on_close, delete_on_no_links, delete_on_no_links_or_messages, delete_on_no_messages}
use Rattle.amqp_termini.specs.Tables.{coordinator, source, target}
use Rattle.amqp_sections.specs.Sections.{data_naming, sequence_naming, value_naming}
use Rattle.amqp_map_sections.specs.MapSections.{delivery_annotations_naming, message_annotations_naming, footer_naming}
use Rattle.amqp_map_sections.specs.MapSections.{application_properties_naming}
use Rattle.amqp_performatives.specs.declared.open.TheConstants.Open as open_constants
use Rattle.amqp_performatives.specs.declared.begin.TheConstants.Begin as begin_constants
use Rattle.amqp_attach.specs.declared.attach.TheConstants.Attach as attach_constants
use Rattle.amqp_performatives.specs.declared.flow.TheConstants.Flow as flow_constants
use Rattle.amqp_performatives.specs.declared.transfer.TheConstants.Transfer as transfer_constants
use Rattle.amqp_performatives.specs.declared.disposition.TheConstants.Disposition as disposition_constants
use Rattle.amqp_performatives.specs.declared.detach.TheConstants.Detach as detach_constants
use Rattle.amqp_performatives.specs.declared.end.TheConstants.End as end_constants
use Rattle.amqp_performatives.specs.declared.close.TheConstants.Close as close_constants
use Rattle.amqp_errors.specs.declared.error.TheConstants.Error as error_constants
use Rattle.amqp_plain_states.specs.declared.received.TheConstants.Received as received_constants
use Rattle.amqp_delivery.specs.declared.rejected.TheConstants.Rejected as rejected_constants
use Rattle.amqp_delivery.specs.declared.modified.TheConstants.Modified as modified_constants
use Rattle.amqp_termini.specs.declared.source.TheConstants.Source as source_constants
use Rattle.amqp_termini.specs.declared.target.TheConstants.Target as target_constants
use Rattle.amqp_termini.specs.declared.coordinator.TheConstants.Coordinator as coordinator_constants
use Rattle.amqp_plain_states.specs.declared.declare.TheConstants.Declare as declare_constants
use Rattle.amqp_plain_states.specs.declared.discharge.TheConstants.Discharge as discharge_constants
use Rattle.amqp_plain_states.specs.declared.declared.TheConstants.Declared as declared_constants
use Rattle.amqp_delivery.specs.declared.transactional_state.TheConstants.TransactionalState as transactional_state_constants
use Rattle.amqp_sasl.specs.declared.sasl_mechanisms.TheConstants.SaslMechanisms as sasl_mechanisms_constants
use Rattle.amqp_sasl.specs.declared.sasl_init.TheConstants.SaslInit as sasl_init_constants
use Rattle.amqp_sasl.specs.declared.sasl_challenge.TheConstants.SaslChallenge as sasl_challenge_constants
use Rattle.amqp_sasl.specs.declared.sasl_response.TheConstants.SaslResponse as sasl_response_constants
use Rattle.amqp_sasl.specs.declared.sasl_outcome.TheConstants.SaslOutcome as sasl_outcome_constants
use Rattle.amqp_message_headers.specs.declared.header.TheConstants.Header as header_constants
use Rattle.amqp_message_headers.specs.declared.properties.TheConstants.Properties as properties_constants

-- The code and the name of the descriptor that the type's values have, by the type's table; or none if they have several, or none.
abbrev pub descriptor_of : TypeName → Option (ℕ × List ℕ)
descriptor_of line_type.Open = Some (opening.code, opening.name)
descriptor_of line_type.Begin = Some (begin.code, begin.name)
descriptor_of line_type.Attach = Some (attach.code, attach.name)
descriptor_of line_type.Flow = Some (flow.code, flow.name)
descriptor_of line_type.Transfer = Some (transfer.code, transfer.name)
descriptor_of line_type.Disposition = Some (disposition.code, disposition.name)
descriptor_of line_type.Detach = Some (detach.code, detach.name)
descriptor_of line_type.End = Some (ending.code, ending.name)
descriptor_of line_type.Close = Some (close.code, close.name)
descriptor_of line_type.Error = Some (error.code, error.name)
descriptor_of line_type.Received = Some (received.code, received.name)
descriptor_of line_type.Accepted = Some (accepted.code, accepted.name)
descriptor_of line_type.Rejected = Some (rejected.code, rejected.name)
descriptor_of line_type.Released = Some (released.code, released.name)
descriptor_of line_type.Modified = Some (modified.code, modified.name)
descriptor_of line_type.Source = Some (source.code, source.name)
descriptor_of line_type.Target = Some (target.code, target.name)
descriptor_of line_type.DeleteOnClose = Some (delete_on_close.code, delete_on_close.name)
descriptor_of line_type.DeleteOnNoLinks = Some (delete_on_no_links.code, delete_on_no_links.name)
descriptor_of line_type.DeleteOnNoMessages = Some (delete_on_no_messages.code, delete_on_no_messages.name)
descriptor_of line_type.DeleteOnNoLinksOrMessages = Some (delete_on_no_links_or_messages.code, delete_on_no_links_or_messages.name)
descriptor_of line_type.Coordinator = Some (coordinator.code, coordinator.name)
descriptor_of line_type.Declare = Some (declare.code, declare.name)
descriptor_of line_type.Discharge = Some (discharge.code, discharge.name)
descriptor_of line_type.Declared = Some (declared.code, declared.name)
descriptor_of line_type.TransactionalState = Some (transactional_state.code, transactional_state.name)
descriptor_of line_type.SaslMechanisms = Some (sasl_mechanisms.code, sasl_mechanisms.name)
descriptor_of line_type.SaslInit = Some (sasl_init.code, sasl_init.name)
descriptor_of line_type.SaslChallenge = Some (sasl_challenge.code, sasl_challenge.name)
descriptor_of line_type.SaslResponse = Some (sasl_response.code, sasl_response.name)
descriptor_of line_type.SaslOutcome = Some (sasl_outcome.code, sasl_outcome.name)
descriptor_of line_type.Header = Some (header.code, header.name)
descriptor_of line_type.DeliveryAnnotations = Some (delivery_annotations_naming.code, delivery_annotations_naming.name)
descriptor_of line_type.MessageAnnotations = Some (message_annotations_naming.code, message_annotations_naming.name)
descriptor_of line_type.Properties = Some (properties.code, properties.name)
descriptor_of line_type.ApplicationProperties = Some (application_properties_naming.code, application_properties_naming.name)
descriptor_of line_type.Data = Some (data_naming.code, data_naming.name)
descriptor_of line_type.AmqpSequence = Some (sequence_naming.code, sequence_naming.name)
descriptor_of line_type.AmqpValue = Some (value_naming.code, value_naming.name)
descriptor_of line_type.Footer = Some (footer_naming.code, footer_naming.name)
descriptor_of _ = None

-- The code alone.
abbrev pub code_of : TypeName → Option ℕ
code_of named = option_map (λ d. d.0) (descriptor_of named)

-- The types whose values have one descriptor, in the order of the codes.
abbrev pub described : List TypeName
described =
    line_type.Open ∷ line_type.Begin ∷ line_type.Attach ∷ line_type.Flow ∷ line_type.Transfer ∷ line_type.Disposition
    ∷ line_type.Detach ∷ line_type.End ∷ line_type.Close ∷ line_type.Error ∷ line_type.Received ∷ line_type.Accepted
    ∷ line_type.Rejected ∷ line_type.Released ∷ line_type.Modified ∷ line_type.Source ∷ line_type.Target ∷ line_type.DeleteOnClose
    ∷ line_type.DeleteOnNoLinks ∷ line_type.DeleteOnNoMessages ∷ line_type.DeleteOnNoLinksOrMessages ∷ line_type.Coordinator
    ∷ line_type.Declare ∷ line_type.Discharge ∷ line_type.Declared ∷ line_type.TransactionalState ∷ line_type.SaslMechanisms
    ∷ line_type.SaslInit ∷ line_type.SaslChallenge ∷ line_type.SaslResponse ∷ line_type.SaslOutcome ∷ line_type.Header
    ∷ line_type.DeliveryAnnotations ∷ line_type.MessageAnnotations ∷ line_type.Properties ∷ line_type.ApplicationProperties
    ∷ line_type.Data ∷ line_type.AmqpSequence ∷ line_type.AmqpValue ∷ line_type.Footer ∷ []

-- Their descriptors.
abbrev pub descriptors : List (ℕ × List ℕ)
descriptors = map (λ named. unwrap_or (descriptor_of named) (0, [])) described

-- The names of the fields of the type's values, in the order of the standard. Only composites have fields.
abbrev pub field_names : TypeName → List (List ℕ)
field_names line_type.Open = map (λ name. name.now) open_constants.FIELD_NAMES.now
field_names line_type.Begin = map (λ name. name.now) begin_constants.FIELD_NAMES.now
field_names line_type.Attach = map (λ name. name.now) attach_constants.FIELD_NAMES.now
field_names line_type.Flow = map (λ name. name.now) flow_constants.FIELD_NAMES.now
field_names line_type.Transfer = map (λ name. name.now) transfer_constants.FIELD_NAMES.now
field_names line_type.Disposition = map (λ name. name.now) disposition_constants.FIELD_NAMES.now
field_names line_type.Detach = map (λ name. name.now) detach_constants.FIELD_NAMES.now
field_names line_type.End = map (λ name. name.now) end_constants.FIELD_NAMES.now
field_names line_type.Close = map (λ name. name.now) close_constants.FIELD_NAMES.now
field_names line_type.Error = map (λ name. name.now) error_constants.FIELD_NAMES.now
field_names line_type.Received = map (λ name. name.now) received_constants.FIELD_NAMES.now
field_names line_type.Rejected = map (λ name. name.now) rejected_constants.FIELD_NAMES.now
field_names line_type.Modified = map (λ name. name.now) modified_constants.FIELD_NAMES.now
field_names line_type.Source = map (λ name. name.now) source_constants.FIELD_NAMES.now
field_names line_type.Target = map (λ name. name.now) target_constants.FIELD_NAMES.now
field_names line_type.Coordinator = map (λ name. name.now) coordinator_constants.FIELD_NAMES.now
field_names line_type.Declare = map (λ name. name.now) declare_constants.FIELD_NAMES.now
field_names line_type.Discharge = map (λ name. name.now) discharge_constants.FIELD_NAMES.now
field_names line_type.Declared = map (λ name. name.now) declared_constants.FIELD_NAMES.now
field_names line_type.TransactionalState = map (λ name. name.now) transactional_state_constants.FIELD_NAMES.now
field_names line_type.SaslMechanisms = map (λ name. name.now) sasl_mechanisms_constants.FIELD_NAMES.now
field_names line_type.SaslInit = map (λ name. name.now) sasl_init_constants.FIELD_NAMES.now
field_names line_type.SaslChallenge = map (λ name. name.now) sasl_challenge_constants.FIELD_NAMES.now
field_names line_type.SaslResponse = map (λ name. name.now) sasl_response_constants.FIELD_NAMES.now
field_names line_type.SaslOutcome = map (λ name. name.now) sasl_outcome_constants.FIELD_NAMES.now
field_names line_type.Header = map (λ name. name.now) header_constants.FIELD_NAMES.now
field_names line_type.Properties = map (λ name. name.now) properties_constants.FIELD_NAMES.now
field_names _ = []
