use Rattle.amqp_sums.specs.Choices.{ChoiceRead}
use Rattle.amqp_codec.specs.Composite.{table_with}
use Rattle.amqp_codec.specs.FieldReading.{FieldsRead, FieldsFault}
use Rattle.amqp_codec.specs.laws.Refusal.{refused_first}
use Rattle.amqp_sums.proofs.sums.read_as.Goals as goal

pub returns-in-Err-clause-read : goal.returns-in-Err-clause-read
returns-in-Err-clause-read g c tells =
    let t = table_with g.C.Composite.names g.C.FieldList.list in
    refused_first (FieldsRead t.fields) (FieldsFault t.fields) (ChoiceRead t g.S.From.from_gives) (FieldsFault t.fields) _ _ _
    (λ h. h) (λ _ f. f) (λ none v b h. none h.member b h.read) (c.in-Err.ensures.read c.blank-member.ensures tells)
