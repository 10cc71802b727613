-- The kinds of sections (Part 3, section 3.2).
use Rattle.std.specs.Prelude.{◌≡◌, ◌⊎◌, ℕ, List, codes}
use Rattle.amqp_section_slices.specs.declared.section_kind.SectionKind.{SectionKind}
use Rattle.amqp_section_slices.specs.declared.section_kind.SectionKind.TheVariants.{Header, DeliveryAnnotations, MessageAnnotations}
use Rattle.amqp_section_slices.specs.declared.section_kind.SectionKind.TheVariants.{Properties, ApplicationProperties, Data, AmqpSequence}
use Rattle.amqp_section_slices.specs.declared.section_kind.SectionKind.TheVariants.{AmqpValue, Footer}

-- The code of its descriptor.
abbrev pub code_of : SectionKind → ℕ
code_of Header = 0x70
code_of DeliveryAnnotations = 0x71
code_of MessageAnnotations = 0x72
code_of Properties = 0x73
code_of ApplicationProperties = 0x74
code_of Data = 0x75
code_of AmqpSequence = 0x76
code_of AmqpValue = 0x77
code_of Footer = 0x78

-- The body, or a part of it.
abbrev pub IsBody : SectionKind → Type 0
IsBody kind = (kind ≡ Data) ⊎ ((kind ≡ AmqpSequence) ⊎ (kind ≡ AmqpValue))

-- A part of the bare message.
abbrev pub IsBare : SectionKind → Type 0
IsBare kind = (kind ≡ Properties) ⊎ ((kind ≡ ApplicationProperties) ⊎ IsBody kind)

-- The standard's name of it.
abbrev pub name_of : SectionKind → List ℕ
name_of Header = codes "header"
name_of DeliveryAnnotations = codes "delivery-annotations"
name_of MessageAnnotations = codes "message-annotations"
name_of Properties = codes "properties"
name_of ApplicationProperties = codes "application-properties"
name_of Data = codes "data"
name_of AmqpSequence = codes "amqp-sequence"
name_of AmqpValue = codes "amqp-value"
name_of Footer = codes "footer"
