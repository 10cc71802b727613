use Rattle.amqp_encoder.proofs.Plain.{nulls_put}
use Rattle.amqp_encoder.proofs.measure.MeasurePass.put_plain_nulls.Goals as goal

pub returns-clause-written : goal.returns-clause-written
returns-clause-written c =
    nulls_put c.count_plain.result _ _ _ c.requires.plain c.count_plain.ensures.counted c.count_plain.ensures.content
    c.count_plain.ensures.count
