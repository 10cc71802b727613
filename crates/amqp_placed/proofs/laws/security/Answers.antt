use Rattle.amqp_placed.proofs.Security.{mechanisms_shown, init_shown, challenge_shown, response_shown, outcome_shown}
use Rattle.amqp_placed.proofs.laws.security.Goals as goal

pub returns-clause-mechanisms : goal.returns-clause-mechanisms
returns-clause-mechanisms c = mechanisms_shown

pub returns-clause-init : goal.returns-clause-init
returns-clause-init c = init_shown

pub returns-clause-challenge : goal.returns-clause-challenge
returns-clause-challenge c = challenge_shown

pub returns-clause-response : goal.returns-clause-response
returns-clause-response c = response_shown

pub returns-clause-outcome : goal.returns-clause-outcome
returns-clause-outcome c = outcome_shown
