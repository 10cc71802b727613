use Rattle.amqp_nodes.proofs.Told.{item_told}
use Rattle.amqp_nodes.proofs.nodes.Node.of_item.Goals as goal

pub returns-clause-item : goal.returns-clause-item
returns-clause-item c =
    let told = c.of_data.ensures in
    item_told c.args.code c.args.bytes.now c.in_ok-len.len c.args.at c.of_data.result c.in_ok-len.ensures.found told.code told.starts told.ends
    told.items told.term
