-- How each section of a message is written, and read again from its text (Part 3, section 3.2).
use Rattle.std.specs.Prelude.{String}
use Rattle.std.proofs.Common.{◌≡◌, inl, inr, ℕ, Global, true, false, eqb, List, [], ◌∷◌, codes, refl, sym, subst, arith}
use Rattle.std.proofs.lemmas.Bool.{eq-eqb}
use Rattle.amqp_codec.specs.TermType.{TermType}
use Rattle.amqp_codec.specs.TermReading.{reading_of}
use Rattle.amqp_codec.specs.Composite.{composite}
use Rattle.amqp_codec.specs.Reading.{Reading}
use Rattle.amqp_codec.specs.Written.{Writing}
use Rattle.amqp_codec.specs.Agreement.{Agreement, agreement}
use Rattle.amqp_sections.specs.SectionType.{section_writing, section_agreement}
use Rattle.amqp_values.specs.declared.value.Value.{Value}
use Rattle.amqp_simple_values.specs.declared.simple.SimpleValue.{SimpleValue}
use Rattle.amqp_annotations.specs.declared.owned_key.OwnedKey.{OwnedKey}
use Rattle.amqp_annotations.specs.AnnotationsType.{annotations_type}
use Rattle.amqp_map_sections.specs.MapSections.{in_delivery_annotations, delivery_annotations_naming, in_message_annotations}
use Rattle.amqp_map_sections.specs.MapSections.{message_annotations_naming, in_application_properties, application_properties_naming}
use Rattle.amqp_map_sections.specs.MapSections.{in_footer, footer_naming}
use Rattle.amqp_map_sections.specs.SimpleMaps.{simple_map_type}
use Rattle.amqp_message_headers.specs.Tables.{header, properties}
use Rattle.amqp_batches.specs.Sections.{IsSectionCode, IsSection}
use Rattle.amqp_batches.specs.SectionGroups.{section_text}
use Rattle.amqp_batches.specs.GroupTexts.{GroupText, widened}
use Rattle.amqp_bodies.specs.BodyRewriting.{IsBodyCode}
use Rattle.amqp_bodies.specs.BodyTexts.{IsBodyGroup, body_group}
use Rattle.amqp_messages.specs.Kinds.{is_in}
use Rattle.amqp_messages.specs.KindsTexts.{Texts}
use Rattle.amqp_messages.specs.MessageKinds.{seven}
use Rattle.amqp_messages.specs.Messages.{readings_of}
use Rattle.amqp_messages.specs.laws.KindsReading.{or_true}

pub header_code : IsSectionCode 0x70
header_code = record {
  is_code = (codes "amqp:header:list", (0, omega arith, refl), inl refl);
  short = refl;
  names = (0x53, 0x70 ∷ [], refl, (refl, refl, tt));
}

pub delivery_annotations_code : IsSectionCode 0x71
delivery_annotations_code = record {
  is_code = (codes "amqp:delivery-annotations:map", (1, omega arith, refl), inl refl);
  short = refl;
  names = (0x53, 0x71 ∷ [], refl, (refl, refl, tt));
}

pub message_annotations_code : IsSectionCode 0x72
message_annotations_code = record {
  is_code = (codes "amqp:message-annotations:map", (2, omega arith, refl), inl refl);
  short = refl;
  names = (0x53, 0x72 ∷ [], refl, (refl, refl, tt));
}

pub properties_code : IsSectionCode 0x73
properties_code = record {
  is_code = (codes "amqp:properties:list", (3, omega arith, refl), inl refl);
  short = refl;
  names = (0x53, 0x73 ∷ [], refl, (refl, refl, tt));
}

pub application_properties_code : IsSectionCode 0x74
application_properties_code = record {
  is_code = (codes "amqp:application-properties:map", (4, omega arith, refl), inl refl);
  short = refl;
  names = (0x53, 0x74 ∷ [], refl, (refl, refl, tt));
}

pub footer_code : IsSectionCode 0x78
footer_code = record {
  is_code = (codes "amqp:footer:map", (8, omega arith, refl), inl refl);
  short = refl;
  names = (0x53, 0x78 ∷ [], refl, (refl, refl, tt));
}

-- A section with this code, as its type is written.
abbrev section : {T : Type 0} (c : ℕ) {u : TermType T} {w : Writing T} → IsSection c w → Agreement u w
    → GroupText (reading_of u) (λ k. is_in (c ∷ []) k ≡ true)
section c s a = widened (λ k e. or_true (eqb k c) false (eq-eqb k c e)) (section_text c s a)

pub body_code : (c : ℕ) → IsBodyCode c → is_in (0x75 ∷ 0x76 ∷ 0x77 ∷ []) c ≡ true
body_code c (inl e) = subst (λ z. is_in (0x75 ∷ 0x76 ∷ 0x77 ∷ []) z ≡ true) (sym e) refl
body_code c (inr (inl e)) = subst (λ z. is_in (0x75 ∷ 0x76 ∷ 0x77 ∷ []) z ≡ true) (sym e) refl
body_code c (inr (inr e)) = subst (λ z. is_in (0x75 ∷ 0x76 ∷ 0x77 ∷ []) z ≡ true) (sym e) refl

module _ {wa : Writing (List (OwnedKey × Value))} {ws : Writing (List (String Global × SimpleValue))} (a : Agreement annotations_type wa)
    (s : Agreement simple_map_type ws) {B : Type 0} {reading : Reading B} {writing : Writing B} {follows : List ℕ → Type 0} {again : B → B}
    {kept lasts : B → Type 0} (body : IsBodyGroup reading writing follows again kept lasts) where
  -- Of each kind, by how annotations, simple maps and the body are written.
  abbrev pub texts : Texts (seven B) (readings_of reading)
  texts = (
    section 0x70 (record { is_section = header_code; content = _; canon_is = λ v. refl }) (agreement (composite header) refl),
    (
      section 0x71 {w = section_writing in_delivery_annotations delivery_annotations_naming wa}
          (record { is_section = delivery_annotations_code; content = _; canon_is = λ v. refl })
          (section_agreement in_delivery_annotations delivery_annotations_naming a),
      (
        section 0x72 {w = section_writing in_message_annotations message_annotations_naming wa}
            (record { is_section = message_annotations_code; content = _; canon_is = λ v. refl })
            (section_agreement in_message_annotations message_annotations_naming a),
        (
          section 0x73 (record { is_section = properties_code; content = _; canon_is = λ v. refl }) (agreement (composite properties) refl),
          (
            section 0x74 {w = section_writing in_application_properties application_properties_naming ws}
                (record { is_section = application_properties_code; content = _; canon_is = λ v. refl })
                (section_agreement in_application_properties application_properties_naming s),
            (
              widened body_code (body_group body),
              (
                section 0x78 {w = section_writing in_footer footer_naming wa}
                    (record { is_section = footer_code; content = _; canon_is = λ v. refl }) (section_agreement in_footer footer_naming a),
                tt,
              ),
            ),
          ),
        ),
      ),
    ),
  )
