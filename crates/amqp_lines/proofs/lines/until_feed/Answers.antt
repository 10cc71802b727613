use Rattle.amqp_lines.proofs.Pieces.{first_some, first_none}
use Rattle.amqp_lines.proofs.lines.until_feed.Goals as goal

pub returns-in-Some-clause-none_before : goal.returns-in-Some-clause-none_before
returns-in-Some-clause-none_before c = first_some 10 c.args.bytes.now c.in-Some.len c.in-Some.ensures

pub returns-in-None-clause-none_before : goal.returns-in-None-clause-none_before
returns-in-None-clause-none_before c = first_none 10 c.args.bytes.now c.in-None.ensures
