use Rattle.amqp_lookahead.proofs.SectionsAhead.{one_ahead}
use Rattle.amqp_lookahead.proofs.laws.one_section.Goals as goal

pub returns : goal.returns
returns c = one_ahead
