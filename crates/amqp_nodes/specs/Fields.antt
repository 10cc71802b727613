-- The fields of composites, found by their numbers (Part 1, section 1.4).
use Rattle.std.specs.Prelude.{◌≡◌, ◌⊎◌, ℕ, zero, suc, ◌<◌, ◌≤◌, List, ◌∷◌, ◌++◌, length}
use Rattle.amqp_model.specs.Term.{Descriptor, Term, Terms, container, described, list}
use Rattle.amqp_wire.specs.declared.error.Error.{Error}
use Rattle.amqp_wire.specs.declared.error.Error.TheVariants.{WrongType}
use Rattle.amqp_kinds.specs.declared.kind.Kind.TheVariants as kind
use Rattle.amqp_nodes.specs.Nodes.{kind_number, IsNode, IsNoNode, bytes_at}
use Rattle.amqp_nodes.specs.Walks.{each, StandsIn, IsNodeOf}
use Rattle.amqp_nodes.specs.declared.nodes.Node.{Node}

-- In a node, so many nodes come next from the first place on, and the last of them ends at the second place.
abbrev pub Passes : List ℕ → Node → ℕ → ℕ → ℕ → Type 0
Passes input around from zero at = at ≡ from
Passes input around from (suc n) at =
    (before : ℕ) × (node : Node) × Passes input around from n before × IsNode input before around node × (at ≡ node.end)

-- The node is that of the item with this number, counted from 0, in the node around it.
abbrev pub IsItem : List ℕ → Node → ℕ → Node → Type 0
IsItem input around index node = (at : ℕ) × Passes input around around.next index at × IsNode input at around node

-- The node around has no item with this number or a smaller one, and the error says why.
abbrev pub IsNoItem : List ℕ → Node → ℕ → Error → Type 0
IsNoItem input around index e =
    (n : ℕ) × (at : ℕ) × (n ≤ index) × Passes input around around.next n at × IsNoNode input at around e

-- A composite is a described value, and what its descriptor describes is the list of its fields.
abbrev pub IsListOf : List ℕ → Node → Node → Type 0
IsListOf input composite fields =
    (composite.kind ≡ kind_number kind.Described) × IsItem input composite 1 fields × (fields.kind ≡ kind_number kind.List)

-- Why a node has no list of fields: it is no described value, or has no second node, or this is no list.
abbrev pub HasNoList : List ℕ → Node → Error → Type 0
HasNoList input composite e =
    ((composite.kind ≡ kind_number kind.Described → ⊥) × (e ≡ WrongType composite.code))
    ⊎ (((composite.kind ≡ kind_number kind.Described) × IsNoItem input composite 1 e)
    ⊎ ((composite.kind ≡ kind_number kind.Described) × (other : Node) × IsItem input composite 1 other
    × (other.kind ≡ kind_number kind.List → ⊥) × (e ≡ WrongType other.code)))

-- The node is that of the field with this number, which isn't null.
abbrev pub IsField : List ℕ → Node → ℕ → Node → Type 0
IsField input composite index node =
    (fields : Node) × IsListOf input composite fields × (index < fields.count) × IsItem input fields index node
    × (node.kind ≡ kind_number kind.Null → ⊥)

-- The field with this number is omitted: the list ends before it, or it is null.
abbrev pub IsOmitted : List ℕ → Node → ℕ → Type 0
IsOmitted input composite index =
    (fields : Node) × IsListOf input composite fields
    × ((fields.count ≤ index) ⊎ ((node : Node) × IsItem input fields index node × (node.kind ≡ kind_number kind.Null)))

-- Why it isn't known whether there is such a field: there is no list of fields, or the list has fewer nodes than it counts.
abbrev pub HasNoField : List ℕ → Node → ℕ → Error → Type 0
HasNoField input composite index e =
    HasNoList input composite e
    ⊎ ((fields : Node) × IsListOf input composite fields × (index < fields.count) × IsNoItem input fields index e)

-- ---- of a term

-- The term has this number among them, counted from 0.
abbrev pub IsNth : List Term → ℕ → Term → Type 0
IsNth ts index t = (front : List Term) × (behind : List Term) × (ts ≡ front ++ t ∷ behind) × (length front ≡ index)

-- The term stands in the node around it, and the node is its.
pub record IsPlaced (input : List ℕ) (around : Node) (t : Term) (node : Node) : Type 0 where
  pub at : ℕ
  pub front : List ℕ
  pub after : List ℕ
  pub is : bytes_at input at around ≡ front ++ after
  pub stands : StandsIn around t front
  pub told : IsNode input at around node
  pub node_of : IsNodeOf around t front at node

-- The terms end before this number, or the node of the one that has it is null's.
abbrev pub EndsBefore : List ℕ → List Term → ℕ → Type 0
EndsBefore input ts index = (length ts ≤ index)
    ⊎ ((fields : Node) × (node : Node) × (t : Term) × IsNth ts index t × IsPlaced input fields t node × (node.kind ≡ kind_number kind.Null))

-- The node is that of a composite's term in the node around it, a described list of these terms.
abbrev pub IsCompositeOf : List ℕ → Node → List Term → Node → Type 0
IsCompositeOf input around ts composite =
    (d : Descriptor) × (fields : Terms) × (each fields ≡ ts) × IsPlaced input around (described d (container list fields)) composite
