-- The type of values of any kind (Part 1, section 1.6).
use Rattle.std.proofs.Common.{refl}
use Rattle.amqp_codec.specs.Agreement.{Agreement}
use Rattle.amqp_codec.specs.TermType.{TermType}
use Rattle.amqp_kinds.specs.KindReading.{level_faults}
use Rattle.amqp_values.specs.declared.value.Value.{Value}
use Rattle.amqp_values.specs.ValueWriting.{value_writing}
use Rattle.amqp_values.specs.Levels.{value_with, faults_at}

abbrev pub value_type : TermType Value
value_type = value_with (level_faults faults_at)

-- It is written as its type says.
pub value_agreement : Agreement value_type value_writing
value_agreement = record { canons_is = λ v. refl; value_to = λ v i. i; value_from = λ v i. i }
