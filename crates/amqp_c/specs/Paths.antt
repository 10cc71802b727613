-- The call that tells the path to a place in an encoded value (Part 1, sections 1.2 and 1.6).
use Rattle.std.specs.Prelude.{◌≡◌, ◌⊎◌, ℕ, List, [], ◌∷◌, ◌++◌, length, take, drop, Option, Some, None}
use Rattle.amqp_model.specs.Term.{code}
use Rattle.amqp_model.specs.Spelling.{Names}
use Rattle.amqp_lengths.specs.Fronts.{IsFront, NoFront}
use Rattle.amqp_paths.specs.declared.piece.ContainerKind.{ContainerKind}
use Rattle.amqp_paths.specs.declared.piece.ContainerKind.TheVariants.{List as a_list, Map as a_map, Array as an_array}
use Rattle.amqp_paths.specs.declared.piece.Piece.{Piece}
use Rattle.amqp_paths.specs.declared.piece.Piece.TheVariants.{Value, Descriptor, Item, ArrayContent, ElementConstructor, Element, End}
use Rattle.amqp_paths.specs.declared.piece.Node.{Node}
use Rattle.amqp_paths.specs.declared.path.Reached.{Reached}
use Rattle.amqp_paths.specs.Walks.{IsReached, GoesOn}
use Rattle.amqp_c.specs.Descriptors.{IsTypeOfCode}
use Rattle.amqp_c.specs.declared.path.PathNode.{PathNode}

-- The number of a kind of container.
abbrev pub container_number : ContainerKind → ℕ
container_number a_list = 1
container_number a_map = 2
container_number an_array = 3

-- A value by itself, at the start of the input, as it is passed.
abbrev pub whole : PathNode
whole = record { at = 0; piece = 1; container = 0; count = 0; index = 0; descriptors = 0; type_number = 0; code = 0 }

-- What begins in a container of so many items, or its end, as it is passed.
abbrev pub told_within : ContainerKind → ℕ → ℕ → ℕ → PathNode
told_within kind piece n i = record whole { piece = piece; container = container_number kind; count = n; index = i }

-- What begins at a node, as it is passed.
abbrev pub told_piece : Piece → PathNode
told_piece Value = whole
told_piece Descriptor = record whole { piece = 2 }
told_piece (Item kind n i) = told_within kind 3 n i
told_piece (ArrayContent n) = told_within an_array 4 n 0
told_piece (ElementConstructor k) = record (told_within an_array 5 0 0) { descriptors = k }
told_piece (Element k c n i) = record (told_within an_array 6 n i) { descriptors = k; code = c }
told_piece (End kind n) = told_within kind 7 n 0

-- A node as it is passed, with the number of a type.
abbrev pub told_node : Node → ℕ → PathNode
told_node node number = record (told_piece node.piece) { at = node.at; type_number = number }

-- A 0 and a descriptor that is a ulong, of this number (Part 1, section 1.5).
abbrev pub IsMarkOf : ℕ → List ℕ → Type 0
IsMarkOf c b = (name : List ℕ) × (b ≡ 0 ∷ name) × Names (code c) name

-- The number is that of the type whose descriptor comes behind a 0 at the place, by its code; or 0 if none comes there.
abbrev pub IsTypeAt : List ℕ → ℕ → ℕ → Type 0
IsTypeAt input at number = ((c len : ℕ) × IsFront (IsMarkOf c) (drop at input) len × IsTypeOfCode c number)
    ⊎ (((c : ℕ) → NoFront (IsMarkOf c) (drop at input)) × (number ≡ 0))

-- The same of the outer node, if the piece around is the value that its descriptor describes. Otherwise it is 0.
abbrev pub IsTypeAround : List ℕ → Option Node → Piece → ℕ → Type 0
IsTypeAround input (Some outer) Value number = IsTypeAt input outer.at number
IsTypeAround input _ _ number = number ≡ 0

-- By the last two nodes of a path, the number is that of the type by whose descriptor the piece is described, or whose field it is as an item
-- of a list that is described so; the end of the list counts as one. Otherwise it is 0.
abbrev pub IsTypeHere : List ℕ → Option Node → Option Node → Piece → ℕ → Type 0
IsTypeHere input outer None piece number = number ≡ 0
IsTypeHere input outer (Some around) Value number = IsTypeAt input around.at number
IsTypeHere input outer (Some around) (Item a_list n i) number = IsTypeAround input outer around.piece number
IsTypeHere input outer (Some around) (End a_list n) number = IsTypeAround input outer around.piece number
IsTypeHere input outer (Some around) _ number = number ≡ 0

-- So many nodes of the path are told, from the outside in, these are the last two of them, and this is what comes next. The path begins with
-- the input as a value, and goes on as `amqp_paths` has it.
pub data Tells (input : List ℕ) (at : ℕ) : List PathNode → Option Node → Option Node → Option Reached → Type 0 where
  starts : Tells input at [] None None (Some (record { node = record { at = 0; piece = Value }; end = length input }))
  goes_on : (told : List PathNode) (outer around : Option Node) (r : Reached) (comes : Option Reached) (number : ℕ)
      → Tells input at told outer around (Some r) → IsReached input at r → GoesOn input at r comes
      → IsTypeHere input outer around r.node.piece number
      → Tells input at (told ++ (told_node r.node number ∷ [])) around (Some r.node) comes

-- All nodes of the path are told, which are so many. The room begins with them, as many as there is room for, and the rest of it stays.
pub record TellsPath (input : List ℕ) (at : ℕ) (old new : List PathNode) (count : ℕ) : Type 0 where
  pub told : List PathNode
  pub outer : Option Node
  pub around : Option Node
  pub tells : Tells input at told outer around None
  pub counted : count ≡ length told
  pub room : new ≡ take (length old) told ++ drop (length told) old
