use Rattle.amqp_encoder.proofs.Exactly.{term_accepted, term_refused, term_exactly}
use Rattle.amqp_encoder.proofs.laws.accepted_exactly.Goals as goal

pub returns-clause-accepted : goal.returns-clause-accepted
returns-clause-accepted c deep u old new n v i w = term_accepted deep u old new n v i w

pub returns-clause-refused : goal.returns-clause-refused
returns-clause-refused c deep u t old new e n v h i w = term_refused deep u t old new e n v h i w

pub returns-clause-exactly : goal.returns-clause-exactly
returns-clause-exactly c deep u t old new r n v h i w f l = term_exactly deep u t old new r n v h i w f l
