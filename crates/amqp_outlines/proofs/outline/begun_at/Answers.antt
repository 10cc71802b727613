use Rattle.amqp_outlines.proofs.OutlineLemmas.{met_found}
use Rattle.amqp_outlines.proofs.outline.begun_at.Goals as goal

pub returns : goal.returns
returns c =
    met_found c.args.input.now c.args.at c.args.around.now c.in_ok-node.node c.new.result c.in_ok-node.ensures c.new.ensures.from c.new.ensures.node
