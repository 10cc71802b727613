use Rattle.amqp_paths.proofs.Walked.{whole_input}
use Rattle.amqp_paths.proofs.path.path_of.Goals as goal

pub invariant_of-result : goal.invariant_of-result
invariant_of-result c = whole_input c.args.input.now c.args.at
