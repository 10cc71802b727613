use Rattle.std.specs.Prelude.{Ok, Err}
use Rattle.amqp_encoder.proofs.Rows.{measured}
use Rattle.amqp_encoder.proofs.laws.measuring.Goals as goal

pub returns-clause-found : goal.returns-clause-found
returns-clause-found c deep ts old new v i w = measured deep ts old (Ok tt) new v i w

pub returns-clause-refused : goal.returns-clause-refused
returns-clause-refused c deep ts old new e v i w = measured deep ts old (Err e) new v i w
