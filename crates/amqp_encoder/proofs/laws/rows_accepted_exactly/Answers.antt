use Rattle.amqp_encoder.proofs.Exactly.{row_accepted, row_exactly, row_refused}
use Rattle.amqp_encoder.proofs.laws.rows_accepted_exactly.Goals as goal

pub returns-clause-accepted : goal.returns-clause-accepted
returns-clause-accepted c deep us old new n v i w = row_accepted deep us old new n v i w

pub returns-clause-refused : goal.returns-clause-refused
returns-clause-refused c deep us ts old new e n v h i w = row_refused deep us ts old new e n v h i w

pub returns-clause-exactly : goal.returns-clause-exactly
returns-clause-exactly c deep us ts old new r n v h i w f = row_exactly deep us ts old new r n v h i w f
