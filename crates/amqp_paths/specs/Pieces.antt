-- The pieces of the specification by the code's own words (Part 1, sections 1.2 and 1.6).
use Rattle.std.specs.Prelude.{◌≡◌, ℕ, suc, List, length}
use Rattle.amqp_model.specs.Term.{Container, list, map, array, Descriptor}
use Rattle.amqp_lengths.specs.Stands as stands
use Rattle.amqp_lengths.specs.Stands.{a_value, an_item, an_element, a_descriptor, an_array, a_code, an_end}
use Rattle.amqp_paths.specs.declared.piece.ContainerKind.{ContainerKind}
use Rattle.amqp_paths.specs.declared.piece.ContainerKind.TheVariants.{List as a_list, Map as a_map, Array as a_whole_array}
use Rattle.amqp_paths.specs.declared.piece.Piece.{Piece}
use Rattle.amqp_paths.specs.declared.piece.Piece.TheVariants.{Value, Descriptor as a_mark, Item, ArrayContent, ElementConstructor, Element, End}

abbrev pub container_of : ContainerKind → Container
container_of a_list = list
container_of a_map = map
container_of a_whole_array = array

-- The piece of the specification that it names. Of the descriptors that an element shares it has the number.
abbrev pub IsPiece : Piece → stands.Piece → Type 0
IsPiece Value P = P ≡ a_value
IsPiece a_mark P = P ≡ a_descriptor
IsPiece (Item kind n i) P = P ≡ an_item (container_of kind) n i
IsPiece (ArrayContent n) P = P ≡ an_array n
IsPiece (ElementConstructor k) P = P ≡ a_code k
IsPiece (Element k c n i) P = (ds : List Descriptor) × (length ds ≡ k) × (P ≡ an_element ds c n i)
IsPiece (End kind n) P = P ≡ an_end (container_of kind) n

-- Of pieces at one place, one that is further in has a lower rank.
abbrev pub rank : Piece → ℕ
rank (ArrayContent n) = 2
rank (ElementConstructor k) = 1
rank (Element k c n i) = suc k
rank _ = 0
