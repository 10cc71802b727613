use Rattle.amqp_model.proofs.nodes_are_bounded.Goals as goal
use Rattle.amqp_model.proofs.Count

pub returns : goal.returns
returns c = record { bounded = Count.nodes_bounded }
