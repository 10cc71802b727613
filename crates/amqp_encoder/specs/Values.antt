-- What the code's own words stand for in the model.
use Rattle.std.specs.Prelude.{ℕ, List, [], ◌∷◌, string_bytes, Option, Some, None}
use Rattle.amqp_model.specs.Term as model
use Rattle.amqp_model.specs.Term.{name, code}
use Rattle.amqp_model.specs.Text as model_place
use Rattle.amqp_wire.specs.declared.descriptor.Descriptor.{Descriptor}
use Rattle.amqp_wire.specs.declared.descriptor.Descriptor.TheVariants.{Name, Code}
use Rattle.amqp_encoder.specs.declared.places.Place.{Place}
use Rattle.amqp_encoder.specs.declared.places.Place.TheVariants.{Alone, First, Later}
use Rattle.amqp_wire.specs.Containers.{container_of}
use Rattle.amqp_encoder.specs.declared.places.Opened.{Opened}
use Rattle.amqp_encoder.specs.declared.places.Opened.TheVariants.{Container, Described}
use Rattle.amqp_encoder.specs.declared.places.Shortest.{Shortest}
use Rattle.amqp_encoder.specs.declared.places.Shortest.TheVariants as shortest

abbrev pub descriptor_of : Descriptor → model.Descriptor
descriptor_of (Name s) = name (string_bytes s.0)
descriptor_of (Code n) = code n

abbrev pub place_of : Place → model_place.Place
place_of Alone = model_place.Alone
place_of First = model_place.First
place_of Later = model_place.Later

-- none for a described value
abbrev pub opened_of : Opened → Option model.Container
opened_of (Container k) = Some (container_of k)
opened_of Described = None

-- where a primitive takes w in an array
abbrev pub shortest_text : Shortest → List ℕ → List ℕ
shortest_text (shortest.Code c) w = c ∷ []
shortest_text (shortest.Byte c b) w = c ∷ b ∷ []
shortest_text shortest.Wide w = w
