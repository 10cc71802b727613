use Rattle.std.proofs.Common.{arith}
use Rattle.amqp_c.proofs.Paths.{begun, fits, goes}
use Rattle.amqp_c.proofs.path.tell_path.Goals as goal

pub loop-node-init : goal.loop-node-init
loop-node-init c =
    rw c.into_iter-node-iterator.ensures.into_iter_gives
    (begun _ _ _ _ c.path_of-node-items.ensures.input c.path_of-node-items.ensures.place c.path_of-node-items.ensures.begins)

pub overflow_add-count : goal.overflow_add-count
overflow_add-count c = let few = fits _ _ _ _ _ _ _ _ _ _ c.loop-node.invariant c.in-Some.ensures.steps in omega (arith, few)

pub loop-node-preserved : goal.loop-node-preserved
loop-node-preserved c =
    goes _ _ _ _ _ _ _ _ _ _ _ _ _ c.loop-node.invariant c.in-Some.ensures.steps c.type_here-type_number.ensures c.new.ensures c.put_node.ensures
