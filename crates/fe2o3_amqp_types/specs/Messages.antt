-- Sections, batches, bodies and messages (Part 3, section 3.2). It defines nothing.
pub use Rattle.amqp_lookahead.specs.Sections.{IsSectionAhead}
pub use Rattle.amqp_sections.specs.SectionType.{Naming, section_of}
pub use Rattle.amqp_sections.specs.Sections.{data_naming, in_data, sequence_naming, in_sequence, value_naming, in_value}
pub use Rattle.amqp_annotations.specs.OwnedKeys.{owned_primitive}
pub use Rattle.amqp_annotations.specs.BorrowedKeys.{borrowed_primitive}
pub use Rattle.amqp_map_sections.specs.MapSections.{delivery_annotations_naming, in_delivery_annotations, message_annotations_naming}
pub use Rattle.amqp_map_sections.specs.MapSections.{in_message_annotations, application_properties_naming, in_application_properties}
pub use Rattle.amqp_map_sections.specs.MapSections.{footer_naming, in_footer}
pub use Rattle.amqp_message_headers.specs.Made.{default_header, no_properties}
pub use Rattle.amqp_message_headers.specs.MessageIds.{id_primitive}
pub use Rattle.amqp_batches.specs.Sections.{IsSection}
pub use Rattle.amqp_batches.specs.Bounds.{AreAllowed, IsBoundByLimits}
pub use Rattle.amqp_batches.specs.Transparent.{vec_in}
pub use Rattle.amqp_batches.specs.Batches.{sections_in, batch_reading, batch_writing, batch_again}
pub use Rattle.amqp_bodies.specs.Bodies.{Empties, Made, no_value, section_made, itself}
pub use Rattle.amqp_bodies.specs.BodyTexts.{IsBodyText}
pub use Rattle.amqp_bodies.specs.BodySections.{IsSome, empty_body, body_made, value_made, plain_made}
pub use Rattle.amqp_bodies.specs.Members.{body_value, body_data, body_sequences, data_left, sequences_left, data_lent, sequences_lent}
pub use Rattle.amqp_bodies.specs.BodyRewriting.{NoBodyFollows}
pub use Rattle.amqp_bodies.specs.EmptyBodies.{IsReadAsBody, IsNullKnown}
pub use Rattle.amqp_bodies.specs.NullBodies.{IsNull, AreSpelled}
pub use Rattle.amqp_bodies.specs.PlainBodies.{null_value, none_value, lazy_null}
pub use Rattle.amqp_batches.specs.Spellings.{Spells, Begins, IsReadExactly, IsTerm, Are, IsRun, IsBatch}
pub use Rattle.amqp_batches.specs.SpellingFaults.{IsRefusedFor, IsNoTerm, IsRunFault, IsSectionFault}
pub use Rattle.amqp_bodies.specs.SpelledBodies.{IsBody, IsThere}
pub use Rattle.amqp_bodies.specs.SpelledFaults.{IsBodyFault}
pub use Rattle.amqp_messages.specs.Kinds.{Kinds, Group, IsGroup, Fields, put, behind, IsInAnyOrder, IsInOrder}
pub use Rattle.amqp_messages.specs.MessageKinds.{seven, IsMadeOf, IsMessage, IsStrictMessage}
pub use Rattle.amqp_message_spellings.specs.Faults.{IsBehindGroups}
pub use Rattle.amqp_message_spellings.specs.Faults.{IsMessageFault, IsStrictFault}
pub use Rattle.amqp_messages.specs.Messages.{message_of, message_in, as_strict}
pub use Rattle.amqp_messages.specs.MessageWalk.{message_walk}
pub use Rattle.amqp_messages.specs.MessageAgain.{message_again}
pub use Rattle.amqp_messages.specs.MessageCalls.{one_if_there, sections_of, last_code_of, HasSectionsOf, only_body}
pub use Rattle.amqp_messages.specs.Wrappers.{written_in, read_in}
pub use Rattle.amqp_messages.specs.Builders.{built, with_body, empty_builder}
