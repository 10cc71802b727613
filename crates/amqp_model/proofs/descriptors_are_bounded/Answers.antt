use Rattle.amqp_model.proofs.descriptors_are_bounded.Goals as goal
use Rattle.amqp_model.proofs.Weight.{nodes_weigh, marks_bounded, names_bounded}

pub returns : goal.returns
returns c = record { values = nodes_weigh; descriptors = marks_bounded; names = names_bounded }
