-- How many sections a message has, which is the last, which messages differ in the body alone, and which have no other section (Part 3,
-- section 3.2).
use Rattle.std.specs.Prelude.{◌≡◌, ℕ, ◌+◌, List, length, Option, Some, None}
use Rattle.amqp_codec.specs.Reading.{Reading, BeginsWith}
use Rattle.amqp_messages.specs.declared.message.Message.{Message}

abbrev pub one_if_there : {A : Type 0} → Option A → ℕ
one_if_there None = 0
one_if_there (Some v) = 1

abbrev pub sections_of : {B : Type 0} → Message B → ℕ
sections_of m =
    one_if_there m.header
    + (one_if_there m.delivery_annotations
    + (one_if_there m.message_annotations
    + (one_if_there m.properties + (one_if_there m.application_properties + (1 + one_if_there m.footer)))))

-- That of the footer, or of a value.
abbrev pub code_by : {A : Type 0} → Option A → ℕ
code_by None = 0x77
code_by (Some v) = 0x78

abbrev pub last_code_of : {B : Type 0} → Message B → ℕ
last_code_of m = code_by m.footer

abbrev pub HasSectionsOf : {B C : Type 0} → Message B → Message C → Type 0
HasSectionsOf m n =
    (n.header ≡ m.header) × (n.delivery_annotations ≡ m.delivery_annotations) × (n.message_annotations ≡ m.message_annotations)
    × (n.properties ≡ m.properties) × (n.application_properties ≡ m.application_properties) × (n.footer ≡ m.footer)

-- The message with this body and no other section.
abbrev pub only_body : {B : Type 0} → B → Message B
only_body b = record {
  header = None;
  delivery_annotations = None;
  message_annotations = None;
  properties = None;
  application_properties = None;
  body = b;
  footer = None;
}

-- All of the bytes are read as the value.
abbrev pub IsReadWhole : {T : Type 0} → Reading T → List ℕ → T → Type 0
IsReadWhole r text v = BeginsWith r text v (length text)
