use Rattle.amqp_placed.proofs.Unopened.{array_unopened_shown}
use Rattle.amqp_placed.proofs.laws.unopened_arrays.Goals as goal

pub returns : goal.returns
returns c = λ e st f is. array_unopened_shown st f
