-- How the entries of a term come, one after another.
use Rattle.std.specs.Prelude.{◌≡◌, ℕ, ◌<◌, ◌≤◌, List, length}
use Rattle.std.specs.List.{All, AllPairs}
use Rattle.amqp_nodes.specs.declared.nodes.Node.{Node}
use Rattle.amqp_outlines.specs.declared.entry.Entry.{Entry}
use Rattle.amqp_outlines.specs.declared.outline.Open.{Open}
use Rattle.amqp_outlines.specs.declared.outline.Met.{Met}
use Rattle.amqp_outlines.specs.declared.outline.Next.{Next}
use Rattle.amqp_outlines.specs.declared.outline.Next.TheVariants.{Part, Nothing, End}
use Rattle.amqp_outlines.specs.Spans.{IsWithin, ComesBefore, Precedes}

-- The node ends at the place or behind it, in the input and in the node around it. A term that is in no other node has a byte.
pub record IsFound (input : List ℕ) (at : ℕ) (around node : Node) : Type 0 where
  pub some : 0 < node.kind
  pub begins : at ≤ node.end
  pub moves : around.kind ≡ 0 → at < node.end
  pub next : node.next ≤ node.end
  pub within : node.end ≤ length input
  pub inside : 0 < around.kind → node.end ≤ around.end

-- A value is met, which is a node.
pub record IsMet (met : Met) : Type 0 where
  pub some : 0 < met.node.kind
  pub begins : met.from ≤ met.node.end
  pub next : met.node.next ≤ met.node.end

-- It is met at the place, in the input and in the node around it.
pub record IsMetAt (input : List ℕ) (at : ℕ) (around : Node) (met : Met) : Type 0 where
  pub is : IsMet met
  pub from : met.from ≡ at
  pub moves : around.kind ≡ 0 → at < met.node.end
  pub within : met.node.end ≤ length input
  pub inside : 0 < around.kind → met.node.end ≤ around.end

-- P of the part that comes next, if one does
abbrev pub IfPart : (Met → Type 0) → Next → Type 0
IfPart P (Part met) = P met
IfPart P Nothing = Unit {0}
IfPart P End = Unit {0}

-- The parts that come next are in the value that is met.
pub record IsInside (met : Met) (o : Open) : Type 0 where
  pub some : 0 < o.node.kind
  pub begins : met.from ≤ o.next
  pub next : o.next ≤ o.node.end
  pub ends : o.node.end ≤ met.node.end

-- The parts that come next are from the place l to the place n.
pub record IsOpen (l n : ℕ) (o : Open) : Type 0 where
  pub from : l ≤ o.next
  pub some : 0 < o.node.kind
  pub next : o.next ≤ o.node.end
  pub ends : o.node.end ≤ n

-- The entry ends before the parts that come next, or is around them.
abbrev pub LeadsTo : Open → Entry → Type 0
LeadsTo o e = ComesBefore o.depth o.next o.node.end e

-- What is opened later ends before the parts that come next in the other one.
abbrev pub EndsBefore : Open → Open → Type 0
EndsBefore o p = p.node.end ≤ o.next

-- The entries so far, and the values whose parts come next, from the outside in.
pub record Grows (l n : ℕ) (entries : List Entry) (opened : List Open) : Type 0 where
  pub within : All (IsWithin l n) entries
  pub nested : AllPairs Precedes entries
  pub opens : All (IsOpen l n) opened
  pub before : All (λ o. All (LeadsTo o) entries) opened
  pub stacked : AllPairs EndsBefore opened

-- A value comes next that is met, with so many entries around it.
pub record Meets (l n depth : ℕ) (met : Met) (entries : List Entry) (opened : List Open) : Type 0 where
  pub from : l ≤ met.from
  pub within : met.node.end ≤ n
  pub before : All (ComesBefore depth met.from met.node.end) entries
  pub below : All (λ o. met.node.end ≤ o.next) opened
