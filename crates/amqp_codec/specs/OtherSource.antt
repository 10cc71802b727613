-- The faults of the fields and of the members of composites, as records.
use Rattle.amqp_codec.specs.Faults.{Faults}
use Rattle.amqp_codec.specs.laws.Misspelling.{fields_misspelled, member_misspelled}
use Rattle.amqp_codec.specs.Fields.{Fields}
use Rattle.amqp_codec.specs.FieldReading.{FieldsFault}
use Rattle.amqp_codec.specs.laws.FieldReading.{fields_not_outside}
use Rattle.amqp_codec.specs.Members.{Members, MemberFault}
use Rattle.amqp_codec.specs.laws.Members.{member_not_outside}
use Rattle.amqp_codec.specs.laws.OtherSource.{fields_fault, member_fault}
use Rattle.amqp_codec.specs.laws.FieldPlaces.{fields_within, member_within}

-- Why the fields of a table aren't read.
abbrev pub fields_faults : {V : Type 0} → Fields V → Faults
fields_faults fs = record {
  fault = FieldsFault fs;
  not_outside = λ e out. fields_not_outside out fs;
  fault_elsewhere = λ c st e keeps. fields_fault c e keeps fs st;
  misspelled = fields_misspelled fs;
  within = λ st e. fields_within e fs st;
}

-- Why none of the members is read.
abbrev pub member_faults : {V : Type 0} → Members V → Faults
member_faults m = record {
  fault = MemberFault m;
  not_outside = λ e out. member_not_outside out m;
  fault_elsewhere = λ c st e keeps. member_fault c e keeps m st;
  misspelled = member_misspelled m;
  within = λ st e. member_within e m st;
}
