use Rattle.amqp_model.proofs.parts_stand_in_one_way.Goals as goal
use Rattle.amqp_model.proofs.Placed

pub returns : goal.returns
returns c = record { one_way = Placed.parts_one }
