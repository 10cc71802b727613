use Rattle.amqp_maps.proofs.CopiesEqual.{equal_pairs}
use Rattle.amqp_maps.proofs.laws.copies_are_equal.Goals as goal

pub returns : goal.returns
returns g c keys values map copy =
    equal_pairs g.K.Clone.is_clone g.V.Clone.is_clone g.K.PartialEq.eq g.V.PartialEq.eq keys values map copy
