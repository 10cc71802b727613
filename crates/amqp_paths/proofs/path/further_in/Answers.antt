use Rattle.std.proofs.Common.{◌-◌, take, drop}
use Rattle.amqp_paths.proofs.Walked.{its_bytes, goes_on, reached_on}
use Rattle.amqp_paths.proofs.path.further_in.Goals as goal

pub returns-clause-goes : goal.returns-clause-goes
returns-clause-goes c =
    goes_on c.args.input.now (take (c.args.from.end - c.args.from.node.at) (drop c.args.from.node.at c.args.input.now)) c.args.at c.args.from
    c.in_ok-further.further c.requires (its_bytes c.args.input.now c.args.at c.args.from c.requires) c.in_ok-further.ensures.step

pub returns-clause-reached : goal.returns-clause-reached
returns-clause-reached c =
    reached_on c.args.input.now (take (c.args.from.end - c.args.from.node.at) (drop c.args.from.node.at c.args.input.now)) c.args.at c.args.from
    c.in_ok-further.further c.requires (its_bytes c.args.input.now c.args.at c.args.from c.requires) c.in_ok-further.ensures.step
    c.in_ok-further.ensures.low
