use Rattle.amqp_decoder.proofs.Within.{stands_within, looked_within}
use Rattle.amqp_decoder.proofs.laws.limits.Goals as goal

pub returns-clause-stands : goal.returns-clause-stands
returns-clause-stands c = stands_within

pub returns-clause-looked : goal.returns-clause-looked
returns-clause-looked c = looked_within
