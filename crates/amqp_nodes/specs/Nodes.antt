-- The nodes of terms (Part 1, section 1.2).
use Rattle.std.specs.Prelude.{◌≡◌, ◌⊎◌, ℕ, ◌<◌, ◌≤◌, ◌+◌, ◌-◌, ◌^◌, min, cond, eqb, List, [], ◌∷◌, ◌++◌, length, take, drop, Some}
use Rattle.amqp_model.specs.Term.{Term, Terms, leaf, container, described, list, map, array, none, more, count, Descriptor}
use Rattle.amqp_model.specs.Constructors.{Format, fixed, variable, compound, unknown, format}
use Rattle.amqp_model.specs.Spelling.{Joined, Names, Constructor, IsDataOf, AreItemsOf, AreSharedDataOf, IsSpelling}
use Rattle.amqp_model.specs.Measures.{nest}
use Rattle.amqp_wire.specs.declared.error.Error.{Error}
use Rattle.amqp_wire.specs.declared.error.Error.TheVariants.{Cut}
use Rattle.amqp_lengths.specs.Announced.{IsAnnounced}
use Rattle.amqp_lengths.specs.Pieces.{IsNumber, value_of}
use Rattle.amqp_kinds.specs.declared.kind.Kind.{Kind}
use Rattle.amqp_kinds.specs.declared.kind.Kind.TheVariants.{Described, Array}
use Rattle.amqp_kinds.specs.contracts.kind.Kind.{the_type}
use Rattle.amqp_kinds.specs.Kinds.{kind_at, term_kind}
use Rattle.amqp_nodes.specs.Items.{RefusesItem}
use Rattle.amqp_nodes.specs.Terms.{RefusesTerm}
use Rattle.amqp_nodes.specs.declared.nodes.Node.{Node}
use denote.Enum.Declared.{tag_of}

-- The number of a kind: its place among the kinds, from 1 on. 0 is no kind.
abbrev pub kind_number : Kind → ℕ
kind_number kind = tag_of the_type kind + 1

-- How many bytes stand before what data of this format holds: its size, and its count if it is a container's (Part 1, section 1.2).
abbrev pub head_of : Format → ℕ
head_of (fixed w value) = 0
head_of (variable w value) = w
head_of (compound kind w) = w + w
head_of unknown = 0

-- The data announces so many items: behind its size stands their number. Other data, and data that ends before that, announces none.
abbrev pub Announces : Format → List ℕ → ℕ → Type 0
Announces (fixed w value) b n = n ≡ 0
Announces (variable w value) b n = n ≡ 0
Announces (compound kind w) b n = IsNumber w n (take w (drop w b)) ⊎ ((length b < w + w) × (n ≡ 0))
Announces unknown b n = n ≡ 0

-- The node holds no others, so that the next one begins at its end.
pub record HoldsNone (node : Node) : Type 0 where
  pub no_others : node.count ≡ 0
  pub no_items : node.item_code ≡ 0
  pub next : node.next ≡ node.end

-- The node holds the items of a list or the keys and values of a map, which these bytes are, and the next node is the first of them.
pub record HoldsTerms (ts : Terms) (content : List ℕ) (node : Node) : Type 0 where
  pub terms : AreItemsOf ts content
  pub all : node.count ≡ count ts
  pub no_items : node.item_code ≡ 0
  pub next : node.next ≡ node.start

-- The node holds the items of an array. The bytes are their constructor, whose code is the node's `item_code`, and their data, where the next
-- node begins.
pub record HoldsItems (ts : Terms) (content : List ℕ) (node : Node) : Type 0 where
  pub descriptors : List Descriptor
  pub own : List ℕ
  pub behind : List ℕ
  pub is : content ≡ own ++ behind
  pub constructor : Constructor descriptors node.item_code own
  pub items : AreSharedDataOf ts descriptors node.item_code behind
  pub all : node.count ≡ count ts
  pub next : node.next ≡ node.start + length own

-- The bytes are what the term holds, as the node says it: a primitive its value, a container its items.
abbrev pub Holds : Term → List ℕ → Node → Type 0
Holds (leaf p) content node = (value_of (format node.code) content ≡ Some p) × HoldsNone node
Holds (container list ts) content node = HoldsTerms ts content node
Holds (container map ts) content node = HoldsTerms ts content node
Holds (container array none) content node = HoldsNone node
Holds (container array (more t ts)) content node = HoldsItems (more t ts) content node
Holds _ content node = ⊥

-- The node is that of a term without descriptors, whose data under the code are these bytes from the place on. What it holds stands behind its size
-- and its count.
pub record IsDataNode (t : Term) (c : ℕ) (bytes : List ℕ) (at : ℕ) (node : Node) : Type 0 where
  pub kind : node.kind ≡ kind_number (term_kind t)
  pub code : node.code ≡ c
  pub head : List ℕ
  pub content : List ℕ
  pub is : bytes ≡ head ++ content
  pub size : length head ≡ head_of (format c)
  pub starts : node.start ≡ at + length head
  pub ends : node.end ≡ at + length bytes
  pub holds : Holds t content node

-- The node is that of a described value, which these bytes are from the place on. It holds two, its descriptor and its value, from behind a 0 on.
pub record IsDescribedNode (d : Descriptor) (t : Term) (bytes : List ℕ) (at : ℕ) (node : Node) : Type 0 where
  pub kind : node.kind ≡ kind_number Described
  pub code : node.code ≡ 0
  pub content : List ℕ
  pub is : bytes ≡ 0 ∷ content
  pub starts : node.start ≡ at + 1
  pub ends : node.end ≡ at + length bytes
  pub two : node.count ≡ 2
  pub no_items : node.item_code ≡ 0
  pub next : node.next ≡ node.start
  pub holds : Joined (Names d) (λ b. IsSpelling b t) content

-- The bytes from the place on are a code and the data of a term under it, whose node this is.
pub record IsBareNode (t : Term) (bytes : List ℕ) (at : ℕ) (node : Node) : Type 0 where
  pub first : ℕ
  pub others : List ℕ
  pub is : bytes ≡ first ∷ others
  pub spelled : IsDataOf t [] first others
  pub told : IsDataNode t first others (at + 1) node

-- The node is that of the term that these bytes spell from the place on.
abbrev pub IsTermNode : Term → List ℕ → ℕ → Node → Type 0
IsTermNode (described d t) bytes at node = IsDescribedNode d t bytes at node
IsTermNode t bytes at node = IsBareNode t bytes at node

-- The bytes from the place on begin with a term that nests at most 128 deep, and the node is its.
pub record BeginsWithTerm (bytes : List ℕ) (at : ℕ) (node : Node) : Type 0 where
  pub term : Term
  pub front : List ℕ
  pub after : List ℕ
  pub is : bytes ≡ front ++ after
  pub spelled : IsSpelling front term
  pub nests : nest term ≤ 128
  pub told : IsTermNode term front at node

-- The bytes from the place on begin with as much data as the code of an array's items announces, and the node is that of the term whose data under
-- the code they begin with, if there is one.
pub record BeginsWithItem (c : ℕ) (bytes : List ℕ) (at : ℕ) (node : Node) : Type 0 where
  pub front : List ℕ
  pub after : List ℕ
  pub is : bytes ≡ front ++ after
  pub announced : IsAnnounced (format c) front
  pub code : node.code ≡ c
  pub starts : node.start ≡ at + head_of (format c)
  pub ends : node.end ≡ at + length front
  pub items : Announces (format c) front node.count
  pub term : (t : Term) (own behind : List ℕ) → bytes ≡ own ++ behind → IsDataOf t [] c own → IsDataNode t c own at node

-- The number of the kind of arrays.
abbrev pub array_number : ℕ
array_number = kind_number Array

-- In an array stands an item of its, and elsewhere a term.
pub record IsPart (around : Node) (bytes : List ℕ) (at : ℕ) (node : Node) : Type 0 where
  pub term : (around.kind ≡ array_number → ⊥) → BeginsWithTerm bytes at node
  pub item : around.kind ≡ array_number → BeginsWithItem around.item_code bytes at node

-- In an array no item stands there, and elsewhere no term, and the error says why.
pub record IsNoPart (around : Node) (bytes : List ℕ) (e : Error) : Type 0 where
  pub term : (around.kind ≡ array_number → ⊥) → RefusesTerm bytes e
  pub item : around.kind ≡ array_number → RefusesItem around.item_code bytes e

-- Up to where the node that is around reaches: all of the input if there is none.
abbrev pub reach_of : List ℕ → Node → ℕ
reach_of input around = cond (eqb around.kind 0) (length input) around.end

-- How many nodes stand around those in the node: none in what is no node.
abbrev pub inner_depth : Node → ℕ
inner_depth around = cond (eqb around.kind 0) 0 (min (around.depth + 1) (2 ^ 32 - 1))

-- The place stands in the node around it, and this in the input.
abbrev pub IsWithin : List ℕ → ℕ → Node → Type 0
IsWithin input at around = (at ≤ reach_of input around) × (reach_of input around ≤ length input)

-- The input from a place on, up to where the node around it reaches.
abbrev pub bytes_at : List ℕ → ℕ → Node → List ℕ
bytes_at input at around = take (reach_of input around - at) (drop at input)

-- The node begins at the place, in the node around it. Its kind is that of its code, and the next node begins no further than at its end.
pub record IsNode (input : List ℕ) (at : ℕ) (around node : Node) : Type 0 where
  pub within : IsWithin input at around
  pub kind : node.kind ≡ kind_number (kind_at node.code)
  pub depth : node.depth ≡ inner_depth around
  pub next : node.next ≤ node.end
  pub part : IsPart around (bytes_at input at around) at node

-- No node begins at the place: it doesn't stand in the node around it, or this not in the input, or there is no node.
abbrev pub IsNoNode : List ℕ → ℕ → Node → Error → Type 0
IsNoNode input at around e = ((IsWithin input at around → ⊥) × (e ≡ Cut)) ⊎ IsNoPart around (bytes_at input at around) e
