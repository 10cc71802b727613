-- The sections of a body (Part 3, sections 3.2.6 to 3.2.8).
use Rattle.std.proofs.Common.{codes, refl, Vec, Global}
use Rattle.amqp_codec.specs.Wrappers.{Holds}
use Rattle.amqp_primitives.specs.declared.binary.Binary.{Binary}
use Rattle.amqp_sections.specs.SectionType.{Naming}
use Rattle.amqp_sections.specs.declared.data.Data.{Data}
use Rattle.amqp_sections.specs.declared.amqp_sequence.AmqpSequence.{AmqpSequence}
use Rattle.amqp_sections.specs.declared.amqp_value.AmqpValue.{AmqpValue}

-- Part 3, section 3.2.6
abbrev pub data_naming : Naming
data_naming = record { code = 0x75; name = codes "amqp:data:binary"; is_small = refl }

abbrev pub in_data : Holds Data Binary
in_data = record { get = λ v. v.0; put = λ x v. record v { 0 = x }; is_put = λ x v. refl }

-- Part 3, section 3.2.7
abbrev pub sequence_naming : Naming
sequence_naming = record { code = 0x76; name = codes "amqp:amqp-sequence:list"; is_small = refl }

abbrev pub in_sequence : {T : Type 0} → Holds (AmqpSequence T) (Vec T Global)
in_sequence = record { get = λ v. v.0; put = λ x v. record v { 0 = x }; is_put = λ x v. refl }

-- Part 3, section 3.2.8
abbrev pub value_naming : Naming
value_naming = record { code = 0x77; name = codes "amqp:amqp-value:*"; is_small = refl }

abbrev pub in_value : {T : Type 0} → Holds (AmqpValue T) T
in_value = record { get = λ v. v.0; put = λ x v. record v { 0 = x }; is_put = λ x v. refl }
