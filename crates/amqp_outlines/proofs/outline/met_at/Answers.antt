use Rattle.amqp_outlines.proofs.NodeLemmas.{found_node}
use Rattle.amqp_outlines.proofs.OutlineLemmas.{met_found}
use Rattle.amqp_outlines.proofs.outline.met_at.Goals as goal

pub returns-in-Ok : goal.returns-in-Ok
returns-in-Ok c =
    met_found c.args.input.now c.args.at c.args.around.now c.in-Ok.node c.new.result
    (found_node c.args.input.now c.args.at c.args.around.now c.in-Ok.node c.in-Ok.ensures.found) c.new.ensures.from c.new.ensures.node
