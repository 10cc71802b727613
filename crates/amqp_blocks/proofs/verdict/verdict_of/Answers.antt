use Rattle.amqp_blocks.proofs.verdict.verdict_of.Goals as goal

pub returns-in-Ok-clause-verdict : goal.returns-in-Ok-clause-verdict
returns-in-Ok-clause-verdict g c = (c.in-Ok.read.0, c.in-Ok.ensures.found)

pub returns-in-Err-clause-verdict : goal.returns-in-Err-clause-verdict
returns-in-Err-clause-verdict g c = (c.in-Err.ensures.refused, c.in-Err.ensures.within)
