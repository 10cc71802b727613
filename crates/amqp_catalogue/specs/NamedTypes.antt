-- The types that lines and calls may name: their names, how a value of each is read, and as which terms it is written.
use Rattle.std.specs.Prelude.{◌⊎◌, ℕ, List, [], ◌∷◌, codes, Result, Ok, Err}
use Rattle.amqp_model.specs.Term.{Term}
use Rattle.amqp_wire.specs.declared.error.Error.{Error}
use Rattle.amqp_wire.specs.declared.limits.Limits.{Limits}
use Rattle.amqp_codec.specs.TermType.{TermType}
use Rattle.amqp_codec.specs.PrimitiveTypes.{boolean_type}
use Rattle.amqp_codec.specs.Composite.{composite}
use Rattle.amqp_codec.specs.Reading.{Reading, IsUnreadableWithin}
use Rattle.amqp_codec.specs.VecType.{vec_of}
use Rattle.amqp_codec.specs.TermReading.{reading_of}
use Rattle.amqp_read_write.specs.Rewritten.{IsRewrittenWithin, IsUnwrittenWithin}
use Rattle.amqp_primitives.specs.Types.{binary_type}
use Rattle.amqp_sections.specs.SectionType.{section_of}
use Rattle.amqp_sections.specs.Sections.{data_naming, in_data, sequence_naming, in_sequence, value_naming, in_value}
use Rattle.amqp_annotations.specs.AnnotationsType.{annotations_type}
use Rattle.amqp_map_sections.specs.MapSections.{delivery_annotations_naming, in_delivery_annotations, message_annotations_naming}
use Rattle.amqp_map_sections.specs.MapSections.{in_message_annotations, footer_naming, in_footer, application_properties_naming}
use Rattle.amqp_map_sections.specs.MapSections.{in_application_properties}
use Rattle.amqp_map_sections.specs.SimpleMaps.{simple_map_type}
use Rattle.amqp_kinds.specs.KindSumType.{kind_sum_type}
use Rattle.amqp_message_headers.specs.MessageIds.{message_ids}
use Rattle.amqp_message_headers.specs.Tables.{header, properties}
use Rattle.amqp_plain_states.specs.Tables.{accepted, declare, declared, discharge, received, released}
use Rattle.amqp_delivery.specs.Tables.{delivery_state, modified, outcome, rejected, transactional_state}
use Rattle.amqp_errors.specs.Conditions.{condition_type}
use Rattle.amqp_errors.specs.Tables.{error}
use Rattle.amqp_attach.specs.Tables.{attach, performative}
use Rattle.amqp_performatives.specs.Tables.{begin, close, detach, disposition, ending, flow, opening, transfer}
use Rattle.amqp_sasl.specs.Tables.{sasl_challenge, sasl_init, sasl_mechanisms, sasl_outcome, sasl_response}
use Rattle.amqp_simple_values.specs.SimpleType.{simple_type}
use Rattle.amqp_lifetimes.specs.Tables.{delete_on_close, delete_on_no_links, delete_on_no_links_or_messages, delete_on_no_messages}
use Rattle.amqp_lifetimes.specs.Tables.{lifetime_policy}
use Rattle.amqp_termini.specs.Tables.{coordinator, source, target, target_archetype}
use Rattle.amqp_values.specs.ValueType.{value_type}
use Rattle.amqp_catalogue.specs.Messages.{data_batch, data_batch_writing, sequence_batch, sequence_batch_writing, any_body, any_body_writing}
use Rattle.amqp_catalogue.specs.Messages.{of_any_body, of_one_value, of_data, of_data_batch, data_writing, one_value_writing}
use Rattle.amqp_catalogue.specs.Messages.{in_any_order, strictly, message_terms, strict_terms}
use Rattle.amqp_catalogue.specs.declared.type_name.TypeName.{TypeName}
use Rattle.amqp_catalogue.specs.declared.type_name.TypeName.TheVariants as line_type

-- The name of a type.
abbrev pub type_name : TypeName → List ℕ
type_name line_type.Accepted = codes "accepted"
type_name line_type.AmqpSequence = codes "amqp-sequence"
type_name line_type.AmqpValue = codes "amqp-value"
type_name line_type.Annotations = codes "annotations"
type_name line_type.ApplicationProperties = codes "application-properties"
type_name line_type.Attach = codes "attach"
type_name line_type.BatchData = codes "batch-data"
type_name line_type.BatchSequence = codes "batch-sequence"
type_name line_type.Begin = codes "begin"
type_name line_type.Body = codes "body"
type_name line_type.Boolean = codes "boolean"
type_name line_type.Close = codes "close"
type_name line_type.Coordinator = codes "coordinator"
type_name line_type.Data = codes "data"
type_name line_type.Declare = codes "declare"
type_name line_type.Declared = codes "declared"
type_name line_type.DeleteOnClose = codes "delete-on-close"
type_name line_type.DeleteOnNoLinks = codes "delete-on-no-links"
type_name line_type.DeleteOnNoLinksOrMessages = codes "delete-on-no-links-or-messages"
type_name line_type.DeleteOnNoMessages = codes "delete-on-no-messages"
type_name line_type.DeliveryAnnotations = codes "delivery-annotations"
type_name line_type.DeliveryState = codes "delivery-state"
type_name line_type.Detach = codes "detach"
type_name line_type.Discharge = codes "discharge"
type_name line_type.Disposition = codes "disposition"
type_name line_type.End = codes "end"
type_name line_type.Error = codes "error"
type_name line_type.ErrorCondition = codes "error-condition"
type_name line_type.Flow = codes "flow"
type_name line_type.Footer = codes "footer"
type_name line_type.Header = codes "header"
type_name line_type.LifetimePolicy = codes "lifetime-policy"
type_name line_type.Message = codes "message"
type_name line_type.MessageAnnotations = codes "message-annotations"
type_name line_type.MessageBatch = codes "message-batch"
type_name line_type.MessageData = codes "message-data"
type_name line_type.MessageId = codes "message-id"
type_name line_type.MessageValue = codes "message-value"
type_name line_type.Modified = codes "modified"
type_name line_type.Open = codes "open"
type_name line_type.Outcome = codes "outcome"
type_name line_type.Performative = codes "performative"
type_name line_type.Properties = codes "properties"
type_name line_type.Received = codes "received"
type_name line_type.Rejected = codes "rejected"
type_name line_type.Released = codes "released"
type_name line_type.SaslChallenge = codes "sasl-challenge"
type_name line_type.SaslInit = codes "sasl-init"
type_name line_type.SaslMechanisms = codes "sasl-mechanisms"
type_name line_type.SaslOutcome = codes "sasl-outcome"
type_name line_type.SaslResponse = codes "sasl-response"
type_name line_type.SimpleValue = codes "simple-value"
type_name line_type.Source = codes "source"
type_name line_type.StrictMessage = codes "strict-message"
type_name line_type.StrictMessageBatch = codes "strict-message-batch"
type_name line_type.StrictMessageData = codes "strict-message-data"
type_name line_type.StrictMessageValue = codes "strict-message-value"
type_name line_type.Target = codes "target"
type_name line_type.TargetArchetype = codes "target-archetype"
type_name line_type.TransactionalState = codes "transactional-state"
type_name line_type.Transfer = codes "transfer"
type_name line_type.Value = codes "value"

-- Within the limits no value can be read there, and the input has the fault; or what is read is too large to be written.
abbrev pub HasNoTextWithin : {T : Type 0} → Limits → Reading T → (T → List Term) → List ℕ → Error → Type 0
HasNoTextWithin limits r canons input e = IsUnreadableWithin limits r input e ⊎ IsUnwrittenWithin limits r canons input e

-- Within the limits the text is the canonical one of the value that the first n bytes of the input are read as; or there is none.
abbrev pub ReturnsText : {T : Type 0} → Reading T → (T → List Term) → Limits → List ℕ → Result (List ℕ × ℕ) Error → Type 0
ReturnsText r canons limits input (Ok (text, n)) = IsRewrittenWithin limits r canons input text n
ReturnsText r canons limits input (Err e) = HasNoTextWithin limits r canons input e

-- What is said of how values of a type are read, and as which terms they are written: said of a type of terms.
abbrev pub of_terms : {A : Type 1} {T : Type 0} → ((T : Type 0) → Reading T → (T → List Term) → A) → TermType T → A
of_terms {T = T} said u = said T (reading_of u) (λ v. u.canon v ∷ [])

-- The same, said of the type with that name.
abbrev pub of_type : {A : Type 1} → ((T : Type 0) → Reading T → (T → List Term) → A) → TypeName → A
of_type said line_type.Accepted = of_terms said (composite accepted)
of_type said line_type.AmqpSequence = of_terms said (section_of in_sequence sequence_naming (vec_of value_type))
of_type said line_type.AmqpValue = of_terms said (section_of in_value value_naming value_type)
of_type said line_type.Annotations = of_terms said annotations_type
of_type said line_type.ApplicationProperties = of_terms said (section_of in_application_properties application_properties_naming simple_map_type)
of_type said line_type.Attach = of_terms said (composite attach)
of_type said line_type.BatchData = said _ data_batch data_batch_writing.canons
of_type said line_type.BatchSequence = said _ sequence_batch sequence_batch_writing.canons
of_type said line_type.Begin = of_terms said (composite begin)
of_type said line_type.Body = said _ any_body any_body_writing.canons
of_type said line_type.Boolean = of_terms said boolean_type
of_type said line_type.Close = of_terms said (composite close)
of_type said line_type.Coordinator = of_terms said (composite coordinator)
of_type said line_type.Data = of_terms said (section_of in_data data_naming binary_type)
of_type said line_type.Declare = of_terms said (composite declare)
of_type said line_type.Declared = of_terms said (composite declared)
of_type said line_type.DeleteOnClose = of_terms said (composite delete_on_close)
of_type said line_type.DeleteOnNoLinks = of_terms said (composite delete_on_no_links)
of_type said line_type.DeleteOnNoLinksOrMessages = of_terms said (composite delete_on_no_links_or_messages)
of_type said line_type.DeleteOnNoMessages = of_terms said (composite delete_on_no_messages)
of_type said line_type.DeliveryAnnotations = of_terms said (section_of in_delivery_annotations delivery_annotations_naming annotations_type)
of_type said line_type.DeliveryState = of_terms said delivery_state
of_type said line_type.Detach = of_terms said (composite detach)
of_type said line_type.Discharge = of_terms said (composite discharge)
of_type said line_type.Disposition = of_terms said (composite disposition)
of_type said line_type.End = of_terms said (composite ending)
of_type said line_type.Error = of_terms said (composite error)
of_type said line_type.ErrorCondition = of_terms said condition_type
of_type said line_type.Flow = of_terms said (composite flow)
of_type said line_type.Footer = of_terms said (section_of in_footer footer_naming annotations_type)
of_type said line_type.Header = of_terms said (composite header)
of_type said line_type.LifetimePolicy = of_terms said lifetime_policy
of_type said line_type.Message = said _ (in_any_order of_any_body) (message_terms any_body_writing)
of_type said line_type.MessageAnnotations = of_terms said (section_of in_message_annotations message_annotations_naming annotations_type)
of_type said line_type.MessageBatch = said _ (in_any_order of_data_batch) (message_terms data_batch_writing)
of_type said line_type.MessageData = said _ (in_any_order of_data) (message_terms data_writing)
of_type said line_type.MessageId = of_terms said (kind_sum_type message_ids)
of_type said line_type.MessageValue = said _ (in_any_order of_one_value) (message_terms one_value_writing)
of_type said line_type.Modified = of_terms said (composite modified)
of_type said line_type.Open = of_terms said (composite opening)
of_type said line_type.Outcome = of_terms said outcome
of_type said line_type.Performative = of_terms said performative
of_type said line_type.Properties = of_terms said (composite properties)
of_type said line_type.Received = of_terms said (composite received)
of_type said line_type.Rejected = of_terms said (composite rejected)
of_type said line_type.Released = of_terms said (composite released)
of_type said line_type.SaslChallenge = of_terms said (composite sasl_challenge)
of_type said line_type.SaslInit = of_terms said (composite sasl_init)
of_type said line_type.SaslMechanisms = of_terms said (composite sasl_mechanisms)
of_type said line_type.SaslOutcome = of_terms said (composite sasl_outcome)
of_type said line_type.SaslResponse = of_terms said (composite sasl_response)
of_type said line_type.SimpleValue = of_terms said simple_type
of_type said line_type.Source = of_terms said (composite source)
of_type said line_type.StrictMessage = said _ (strictly of_any_body) (strict_terms any_body_writing)
of_type said line_type.StrictMessageBatch = said _ (strictly of_data_batch) (strict_terms data_batch_writing)
of_type said line_type.StrictMessageData = said _ (strictly of_data) (strict_terms data_writing)
of_type said line_type.StrictMessageValue = said _ (strictly of_one_value) (strict_terms one_value_writing)
of_type said line_type.Target = of_terms said (composite target)
of_type said line_type.TargetArchetype = of_terms said target_archetype
of_type said line_type.TransactionalState = of_terms said (composite transactional_state)
of_type said line_type.Transfer = of_terms said (composite transfer)
of_type said line_type.Value = of_terms said value_type

-- The same of the type with that name.
abbrev pub ReturnsOf : TypeName → Limits → List ℕ → Result (List ℕ × ℕ) Error → Type 0
ReturnsOf = of_type (λ T reading canons. ReturnsText reading canons)

abbrev pub IsText : Limits → TypeName → List ℕ → List ℕ → ℕ → Type 0
IsText limits named input text n = ReturnsOf named limits input (Ok (text, n))

abbrev pub HasNoText : Limits → TypeName → List ℕ → Error → Type 0
HasNoText limits named input e = ReturnsOf named limits input (Err e)
