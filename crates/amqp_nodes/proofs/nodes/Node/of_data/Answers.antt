use Rattle.std.proofs.Common.{◌+◌, refl, ap}
use Rattle.amqp_nodes.specs.Nodes.{kind_number}
use Rattle.amqp_nodes.proofs.Told.{data_node}
use Rattle.amqp_nodes.proofs.nodes.Node.of_data.Goals as goal

pub returns-clause-term : goal.returns-clause-term
returns-clause-term c = λ t h.
    let first = c.first_item-item_code in
    data_node t c.args.code c.args.bytes.now c.args.at first.result.1 _
    (record {
      kind = ap kind_number c.kind_of.ensures;
      code = refl;
      starts = ap (λ n. c.args.at + n) c.head_len.ensures.head;
      ends = refl;
      next = refl;
      items = c.count_in-count.ensures;
      no_items = first.ensures.none;
      array_items = first.ensures.array;
      other_items = first.ensures.other;
    }) h
