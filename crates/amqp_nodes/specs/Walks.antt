-- Walks over terms: the first node in a node is asked for at its `next`, and each further one at the end of the one before it.
use Rattle.std.specs.Prelude.{◌≡◌, ℕ, suc, ◌≤◌, List, [], ◌∷◌, ◌++◌}
use Rattle.amqp_model.specs.Term.{Term, Terms, leaf, container, described, list, map, array, none, more}
use Rattle.amqp_model.specs.Spelling.{Joined, descriptor_value, IsDataOf, IsSpelling}
use Rattle.amqp_model.specs.Measures.{nest}
use Rattle.amqp_model.specs.Refusals.{core}
use Rattle.amqp_nodes.specs.Nodes.{array_number, IsTermNode, IsDataNode, IsNode, bytes_at}
use Rattle.amqp_nodes.specs.declared.nodes.Node.{Node}

-- What stands around a whole term.
abbrev pub nothing : Node
nothing = record { kind = 0; depth = 0; code = 0; item_code = 0; count = 0; start = 0; end = 0; next = 0 }

abbrev pub each : Terms → List Term
each none = []
each (more t ts) = t ∷ each ts

-- The items of an array, without the descriptors that they share.
abbrev pub cores : Terms → List Term
cores none = []
cores (more t ts) = core t ∷ cores ts

-- What stands right in a term: in a described value its descriptor and its value.
abbrev pub parts_of : Term → List Term
parts_of (container list ts) = each ts
parts_of (container map ts) = each ts
parts_of (container array ts) = cores ts
parts_of (described d t) = leaf (descriptor_value d) ∷ t ∷ []
parts_of _ = []

-- The term stands in the node as these bytes: in an array as data under the code of its items, and elsewhere with a constructor of its own.
pub record StandsIn (around : Node) (t : Term) (b : List ℕ) : Type 0 where
  pub term : (around.kind ≡ array_number → ⊥) → IsSpelling b t
  pub item : around.kind ≡ array_number → IsDataOf t [] around.item_code b
  pub nests : nest t ≤ 128

-- So do these terms, one behind another.
abbrev pub StandIn : Node → List Term → List ℕ → Type 0
StandIn around [] b = b ≡ []
StandIn around (t ∷ ts) b = Joined (StandsIn around t) (StandIn around ts) b

-- The node is that of the term which stands so at a place.
pub record IsNodeOf (around : Node) (t : Term) (b : List ℕ) (at : ℕ) (node : Node) : Type 0 where
  pub term : (around.kind ≡ array_number → ⊥) → IsTermNode t b at node
  pub item : around.kind ≡ array_number → IsDataNode t around.item_code b at node

-- The nodes that a walk is told from a place in a node on, where so many are still to come in that node. Behind each stand those in it.
pub data Walks (input : List ℕ) : Node → ℕ → ℕ → List Node → Type 0 where
  stops : (around : Node) (at : ℕ) → Walks input around at 0 []
  goes_on : (around node : Node) (at left : ℕ) (inner later : List Node) → IsNode input at around node
      → Walks input node node.next node.count inner → Walks input around node.end left later
      → Walks input around at (suc left) (node ∷ (inner ++ later))

-- The term stands at a place of the input, and the node is its.
pub record IsMet (input : List ℕ) (t : Term) (node : Node) : Type 0 where
  pub around : Node
  pub at : ℕ
  pub front : List ℕ
  pub after : List ℕ
  pub is : bytes_at input at around ≡ front ++ after
  pub stands : StandsIn around t front
  pub told : IsNodeOf around t front at node

-- The nodes are those of the terms and of all that stand in them, each once: behind the node of a term are those of its parts.
pub data AreOf (input : List ℕ) : List Term → List Node → Type 0 where
  of_none : AreOf input [] []
  of_more : (t : Term) (ts : List Term) (node : Node) (inner later : List Node) → IsMet input t node → AreOf input (parts_of t) inner
      → AreOf input ts later → AreOf input (t ∷ ts) (node ∷ (inner ++ later))
