use Rattle.amqp_encoder.proofs.Plain.{one_put}
use Rattle.amqp_encoder.proofs.measure.MeasurePass.put_plain.Goals as goal

pub returns-clause-written : goal.returns-clause-written
returns-clause-written c =
    one_put c.count_plain.result _ _ _ _ _ c.requires.plain c.len.ensures c.count_plain.ensures.counted c.count_plain.ensures.content
    c.count_plain.ensures.count
