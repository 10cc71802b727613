use Rattle.std.proofs.Common.{sym}
use Rattle.amqp_values.proofs.Rising.{sorted_tells}
use Rattle.amqp_values.proofs.sorted.are_apart.Goals as goal

pub returns : goal.returns
returns g c =
    sorted_tells g.T.Ord.cmp g.met.T.Ord.total c.args.items.items c.sort_unstable.new.self.items c.rises.result
    c.sort_unstable.ensures.permutation c.sort_unstable.ensures.sorted (rw (sym c.as_slice.ensures.value) c.rises.ensures)
