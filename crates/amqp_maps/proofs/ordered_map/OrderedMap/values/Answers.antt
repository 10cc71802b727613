use Rattle.std.specs.Map.Iter.{deref}
use Rattle.amqp_maps.proofs.Runs.{shows_in_order, shows_in_reverse}
use Rattle.amqp_maps.proofs.ordered_map.OrderedMap.values.Goals as goal

pub returns-clause-in_order : goal.returns-clause-in_order
returns-clause-in_order g c = shows_in_order deref

pub returns-clause-in_reverse : goal.returns-clause-in_reverse
returns-clause-in_reverse g c = shows_in_reverse deref
