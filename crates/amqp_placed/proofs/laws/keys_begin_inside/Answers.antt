use Rattle.amqp_placed.proofs.Keys.{none_at_end}
use Rattle.amqp_placed.proofs.laws.keys_begin_inside.Goals as goal

pub returns : goal.returns
returns c = none_at_end
