-- What the fields of a list are read from is the list.
use Rattle.std.proofs.Common.{Result, Ok, Err}
use Rattle.amqp_model.specs.Composite.{MeansList}
use Rattle.amqp_wire.specs.declared.error.Error.{Error}
use Rattle.amqp_decoder.specs.State.{State}
use Rattle.amqp_decoder.specs.Primitives.{ReadsValue}
use Rattle.amqp_decoder.specs.Places.{AnswersAt}
use Rattle.amqp_codec.specs.Fields.{Fields, slots, take_memory}
use Rattle.amqp_codec.specs.FieldReading.{FieldsRead, FieldsFault}
use Rattle.amqp_codec.specs.laws.ListType.{fields_value, value_fields}
use Rattle.amqp_codec.specs.laws.Refusal.{refused_first}

pub list_reads : {V : Type 0} (fs : Fields V) (old : State) (r : Result V Error) (new : State)
    → AnswersAt (take_memory fs) (FieldsRead fs) (FieldsFault fs) old r new
    → AnswersAt (take_memory fs) (ReadsValue (λ s. MeansList (slots fs))) (FieldsFault fs) old r new
list_reads fs old (Ok v) new h = fields_value fs old v new h
list_reads fs old (Err e) new h =
    refused_first (FieldsRead fs) (FieldsFault fs) (ReadsValue (λ s. MeansList (slots fs))) (FieldsFault fs) old e new (λ t. t) (λ _ f. f)
    (λ nothing v b k. nothing v b (value_fields fs old v b k)) h
