use Rattle.amqp_placed.proofs.Shrinking.{not_cut_there}
use Rattle.amqp_placed.proofs.laws.described_values_begin_whole.Goals as goal

pub returns : goal.returns
returns c = not_cut_there
