use Rattle.std.proofs.Common.{sym, ◌∙◌}
use Rattle.amqp_values.specs.Labels.{label}
use Rattle.amqp_simple_values.specs.Simple.{simple_term}
use Rattle.amqp_values.proofs.RootsDecide.{roots_decide}
use Rattle.amqp_simple_values.proofs.order.compare.Goals as goal

pub returns-in-Less : goal.returns-in-Less
returns-in-Less c =
    sym (roots_decide (simple_term c.args.left.now) (simple_term c.args.right.now) (label c.leaf_of.result) (label c.leaf_of-2.result) _
    c.leaf_of.ensures c.leaf_of-2.ensures (sym c.cmp.ensures ∙ c.in-Less.is))

pub returns-in-Greater : goal.returns-in-Greater
returns-in-Greater c =
    sym (roots_decide (simple_term c.args.left.now) (simple_term c.args.right.now) (label c.leaf_of.result) (label c.leaf_of-2.result) _
    c.leaf_of.ensures c.leaf_of-2.ensures (sym c.cmp.ensures ∙ c.in-Greater.is))
