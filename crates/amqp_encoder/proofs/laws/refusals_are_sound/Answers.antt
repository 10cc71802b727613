use Rattle.amqp_encoder.proofs.Refused.{has_cause, term_has_cause}
use Rattle.amqp_encoder.proofs.laws.refusals_are_sound.Goals as goal

pub returns-clause-sound : goal.returns-clause-sound
returns-clause-sound c deep us ts e n v h w = has_cause deep us ts e n v h w

pub returns-clause-of_one : goal.returns-clause-of_one
returns-clause-of_one c deep u t e n v h w = term_has_cause deep u t e n v h w
