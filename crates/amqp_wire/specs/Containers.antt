-- The model's containers, by the code's own words.
use Rattle.amqp_model.specs.Term as model
use Rattle.amqp_model.specs.Term.{list, map, array}
use Rattle.amqp_wire.specs.declared.container.Container.{Container}
use Rattle.amqp_wire.specs.declared.container.Container.TheVariants.{List, Map, Array}

abbrev pub container_of : Container → model.Container
container_of List = list
container_of Map = map
container_of Array = array
