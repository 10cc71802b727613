use Rattle.amqp_blocks.proofs.verdict.verdict_of_term.Goals as goal

pub returns-in-Ok-clause-verdict : goal.returns-in-Ok-clause-verdict
returns-in-Ok-clause-verdict c = c.in-Ok.ensures.found

pub returns-in-Err-clause-verdict : goal.returns-in-Err-clause-verdict
returns-in-Err-clause-verdict c = (c.in-Err.ensures.none, c.in-Err.ensures.stands)
