use Rattle.std.proofs.Common.{◌∙◌}
use Rattle.amqp_maps.proofs.Runs.{gives_in_order, gives_in_reverse}
use Rattle.amqp_maps.proofs.ordered_map.OrderedMapIntoIterator.into_iter.Goals as goal

pub returns : goal.returns
returns g c = record {
  into_iter_gives = (
    c.into_pairs.ensures.pairs ∙ c.self.view_is,
    rw c.self.view_is at c.into_pairs.ensures.fits,
    gives_in_order,
    gives_in_reverse,
    rw c.self.view_is at c.self.invariant.distinct,
  );
}
