use Rattle.amqp_encoder.proofs.FilledPlain.{one_filled}
use Rattle.amqp_encoder.proofs.fill.FillPass.put_plain.Goals as goal

pub returns-clause-written : goal.returns-clause-written
returns-clause-written g c =
    one_filled c.is_ok.result c.fill_plain.result _ _ _ _ c.requires.plain c.is_ok.ensures.value c.fill_plain.ensures.does
