use Rattle.amqp_paths.proofs.Walked.{node_stands}
use Rattle.amqp_paths.proofs.laws.nodes.Goals as goal

pub returns : goal.returns
returns c = record { stands = node_stands }
