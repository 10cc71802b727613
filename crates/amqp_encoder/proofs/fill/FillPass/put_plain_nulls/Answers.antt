use Rattle.amqp_encoder.proofs.FilledPlain.{nulls_put}
use Rattle.amqp_encoder.proofs.fill.FillPass.put_plain_nulls.Goals as goal

pub returns-clause-written : goal.returns-clause-written
returns-clause-written g c = nulls_put c.fill_nulls.result _ _ _ c.requires.plain c.fill_nulls.ensures.written
