-- Which bytes are a message: the kinds of its groups, and what it is made of (Part 3, section 3.2).
use Rattle.std.specs.Prelude.{◌≡◌, ℕ, [], ◌∷◌, Option, Some, None}
use Rattle.amqp_codec.specs.TermType.{TermType}
use Rattle.amqp_codec.specs.Composite.{composite}
use Rattle.amqp_sections.specs.SectionType.{section_of}
use Rattle.amqp_annotations.specs.AnnotationsType.{annotations_type}
use Rattle.amqp_map_sections.specs.MapSections.{in_delivery_annotations, delivery_annotations_naming, in_message_annotations}
use Rattle.amqp_map_sections.specs.MapSections.{message_annotations_naming, in_application_properties, application_properties_naming}
use Rattle.amqp_map_sections.specs.MapSections.{in_footer, footer_naming}
use Rattle.amqp_map_sections.specs.SimpleMaps.{simple_map_type}
use Rattle.amqp_map_sections.specs.declared.application_properties.ApplicationProperties.{ApplicationProperties}
use Rattle.amqp_map_sections.specs.declared.delivery_annotations.DeliveryAnnotations.{DeliveryAnnotations}
use Rattle.amqp_map_sections.specs.declared.footer.Footer.{Footer}
use Rattle.amqp_map_sections.specs.declared.message_annotations.MessageAnnotations.{MessageAnnotations}
use Rattle.amqp_message_headers.specs.declared.header.Header.{Header}
use Rattle.amqp_message_headers.specs.declared.properties.Properties.{Properties}
use Rattle.amqp_message_headers.specs.Tables.{header, properties}
use Rattle.amqp_batches.specs.Spellings.{Spells, IsTerm}
use Rattle.amqp_bodies.specs.Bodies.{Made}
use Rattle.amqp_messages.specs.declared.message.Message.{Message}
use Rattle.amqp_messages.specs.declared.strict.Strict.{Strict}
use Rattle.amqp_messages.specs.Kinds.{Kinds, none, kind, ForEach, behind_code, Fields, IsInAnyOrder, IsInOrder}

-- The types of the sections that are maps.
abbrev pub delivery_annotations : TermType DeliveryAnnotations
delivery_annotations = section_of in_delivery_annotations delivery_annotations_naming annotations_type

abbrev pub message_annotations : TermType MessageAnnotations
message_annotations = section_of in_message_annotations message_annotations_naming annotations_type

abbrev pub application_properties : TermType ApplicationProperties
application_properties = section_of in_application_properties application_properties_naming simple_map_type

abbrev pub footer : TermType Footer
footer = section_of in_footer footer_naming annotations_type

-- The seven kinds, by what a body is read as: its groups are data, sequences or a value. A group of any other kind is one section.
abbrev pub seven : Type 0 → Kinds
seven S =
    kind Header (0x70 ∷ [])
    (kind DeliveryAnnotations (0x71 ∷ [])
    (kind MessageAnnotations (0x72 ∷ [])
    (kind Properties (0x73 ∷ [])
    (kind ApplicationProperties (0x74 ∷ []) (kind S (0x75 ∷ 0x76 ∷ 0x77 ∷ []) (kind Footer (0x78 ∷ []) none))))))

-- How many kinds come after that of a section with this code.
abbrev pub behind_section : ℕ → ℕ
behind_section c = behind_code (seven (Unit {0})) c

-- For the body this, and for each section what follows from its type.
abbrev pub by_type : {F : Type 0 → Type 1} → ((T : Type 0) → TermType T → F T) → {S : Type 0} → F S → ForEach F (seven S)
by_type each body = (
  each Header (composite header),
  (
    each DeliveryAnnotations delivery_annotations,
    (
      each MessageAnnotations message_annotations,
      (each Properties (composite properties), (each ApplicationProperties application_properties, (body, (each Footer footer, tt)))),
    ),
  ),
)

-- Which bytes are a group of each.
abbrev pub spelled : {S : Type 0} → Spells S → ForEach Spells (seven S)
spelled group = by_type {F = Spells} (λ T u. IsTerm u) group

-- The fields of a message, with this group as its body.
abbrev pub fields_of : {S B : Type 0} → Option S → Message B → Fields (seven S)
fields_of b v =
    (v.header, (v.delivery_annotations, (v.message_annotations, (v.properties, (v.application_properties, (b, (v.footer, tt)))))))

abbrev pub body_in : {S : Type 0} → Fields (seven S) → Option S
body_in f = f.1.1.1.1.1.0

module _ {S B : Type 0} (made : Made S B) where
  -- The body is made of the last group of its kind, or takes its place if there is none.
  abbrev pub IsBodyOf : Option S → B → Type 0
  IsBodyOf None v = made.empty v
  IsBodyOf (Some s) v = made.of_body s v

  -- Each field of the message is the last group of its kind, and the body is made of that.
  pub record IsMadeOf (f : Fields (seven S)) (v : Message B) : Type 0 where
    pub fields : f ≡ fields_of (body_in f) v
    pub body : IsBodyOf (body_in f) v.body

  -- With its sections in any order; and as the standard writes it.
  abbrev pub IsMessage : Spells S → Spells (Message B)
  IsMessage group b v more = IsInAnyOrder (seven S) (spelled group) IsMadeOf b v more

  abbrev pub IsStrictMessage : Spells S → Spells (Strict B)
  IsStrictMessage group b v more = IsInOrder (seven S) (spelled group) IsMadeOf b v.0 more
