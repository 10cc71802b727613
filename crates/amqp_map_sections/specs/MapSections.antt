-- The sections that are maps (Part 3, sections 3.2.2, 3.2.3, 3.2.5 and 3.2.9).
use Rattle.std.proofs.Common.{codes, List, refl, Global}
use Rattle.std.specs.Prelude.{String}
use Rattle.amqp_codec.specs.Wrappers.{Holds}
use Rattle.amqp_values.specs.declared.value.Value.{Value}
use Rattle.amqp_simple_values.specs.declared.simple.SimpleValue.{SimpleValue}
use Rattle.amqp_sections.specs.SectionType.{Naming}
use Rattle.amqp_annotations.specs.declared.owned_key.OwnedKey.{OwnedKey}
use Rattle.amqp_map_sections.specs.declared.delivery_annotations.DeliveryAnnotations.{DeliveryAnnotations}
use Rattle.amqp_map_sections.specs.declared.message_annotations.MessageAnnotations.{MessageAnnotations}
use Rattle.amqp_map_sections.specs.declared.footer.Footer.{Footer}
use Rattle.amqp_map_sections.specs.declared.application_properties.ApplicationProperties.{ApplicationProperties}

-- Part 3, section 3.2.2
abbrev pub delivery_annotations_naming : Naming
delivery_annotations_naming = record { code = 0x71; name = codes "amqp:delivery-annotations:map"; is_small = refl }

abbrev pub in_delivery_annotations : Holds DeliveryAnnotations (List (OwnedKey × Value))
in_delivery_annotations = record { get = λ v. v.0; put = λ x v. record v { 0 = x }; is_put = λ x v. refl }

-- Part 3, section 3.2.3
abbrev pub message_annotations_naming : Naming
message_annotations_naming = record { code = 0x72; name = codes "amqp:message-annotations:map"; is_small = refl }

abbrev pub in_message_annotations : Holds MessageAnnotations (List (OwnedKey × Value))
in_message_annotations = record { get = λ v. v.0; put = λ x v. record v { 0 = x }; is_put = λ x v. refl }

-- Part 3, section 3.2.9
abbrev pub footer_naming : Naming
footer_naming = record { code = 0x78; name = codes "amqp:footer:map"; is_small = refl }

abbrev pub in_footer : Holds Footer (List (OwnedKey × Value))
in_footer = record { get = λ v. v.0; put = λ x v. record v { 0 = x }; is_put = λ x v. refl }

-- Part 3, section 3.2.5
abbrev pub application_properties_naming : Naming
application_properties_naming = record { code = 0x74; name = codes "amqp:application-properties:map"; is_small = refl }

abbrev pub in_application_properties : Holds ApplicationProperties (List (String Global × SimpleValue))
in_application_properties = record { get = λ v. v.0; put = λ x v. record v { 0 = x }; is_put = λ x v. refl }
