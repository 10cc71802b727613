use Rattle.amqp_encoder.proofs.Rows.{answered, written, same_loan}
use Rattle.amqp_encoder.proofs.laws.filling.Goals as goal

pub returns-clause-answered : goal.returns-clause-answered
returns-clause-answered c deep ts len sizes out limit old new first rest r m h i j w =
    answered deep ts len sizes out limit old first rest r new m h i j w

pub returns-clause-written : goal.returns-clause-written
returns-clause-written c deep ts len sizes out limit old new r m h i w = (written deep ts len sizes out limit old r new m h i w).1

pub returns-clause-lent : goal.returns-clause-lent
returns-clause-lent c deep ts len sizes out limit old new r m h i w = same_loan deep ts len sizes out limit old r new m h i w
