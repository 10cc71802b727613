-- Walks from an encoded value to a place in it.
use Rattle.std.specs.Prelude.{◌≡◌, ℕ, suc, ◌≤◌, ◌+◌, ◌-◌, ◌*◌, List, length, Option, Some, None}
use Rattle.amqp_lengths.specs.Stands as stands
use Rattle.amqp_lengths.specs.Stands.{a_value, Around, Step, Leads}
use Rattle.amqp_paths.specs.declared.piece.Node.{Node}
use Rattle.amqp_paths.specs.declared.path.Reached.{Reached}
use Rattle.amqp_paths.specs.Pieces.{IsPiece, rank}
use Rattle.amqp_paths.specs.Steps.{Among, Reaches, StepsBeyond}

-- The bytes, the place that a path leads to, and the node that comes next, if there is one.
pub record Walk : Type 0 where
  pub input : List ℕ
  pub at : ℕ
  pub comes : Option Reached

-- Some steps lead from the input as a value to the node, which begins at the place or before it, and reaches over the place.
pub record IsReached (input : List ℕ) (at : ℕ) (r : Reached) : Type 0 where
  pub bytes : List ℕ
  pub behind : ℕ
  pub part : Among input bytes r.node.at behind
  pub ends : r.end + behind ≡ length input
  pub near : r.node.at ≤ at
  pub reaches : Reaches r.node.piece bytes (at - r.node.at)
  pub low : rank r.node.piece ≤ 129
  pub piece : stands.Piece
  pub named : IsPiece r.node.piece piece
  pub depth : ℕ
  pub inner : Around
  pub leads : Leads a_value 0 input piece depth bytes inner behind

-- One step leads from the one node to the other, which begins at the place or before it.
pub record IsStep (input : List ℕ) (at : ℕ) (r q : Reached) : Type 0 where
  pub bytes : List ℕ
  pub inner : List ℕ
  pub before : ℕ
  pub behind : ℕ
  pub from : Among input bytes r.node.at before
  pub to : Among input inner q.node.at (behind + before)
  pub order : r.node.at ≤ q.node.at
  pub near : q.node.at ≤ at
  pub step : (P : stands.Piece) (d : ℕ) → IsPiece r.node.piece P → (Q : stands.Piece) × (k : ℕ) × (around : Around) × IsPiece q.node.piece Q
      × Step P d bytes Q k inner around behind

-- No step leads from the node to what begins at the place or before it.
pub record IsLast (input : List ℕ) (at : ℕ) (r : Reached) : Type 0 where
  pub bytes : List ℕ
  pub behind : ℕ
  pub from : Among input bytes r.node.at behind
  pub ends : StepsBeyond (λ P z. IsPiece r.node.piece P × (z ≡ bytes)) (at - r.node.at)

-- How a path goes on behind a node.
abbrev pub GoesOn : List ℕ → ℕ → Reached → Option Reached → Type 0
GoesOn input at r None = IsLast input at r
GoesOn input at r (Some q) = IsStep input at r q

abbrev pub HasReached : List ℕ → ℕ → Option Reached → Type 0
HasReached input at None = Unit {0}
HasReached input at (Some r) = IsReached input at r

-- What a path gives: the node that comes next, which is reached, and behind which it goes on.
abbrev pub Gives : Walk → Option Node → Walk → Type 0
Gives s None t = (s.comes ≡ None) × (t.comes ≡ None)
Gives s (Some node) t = (r : Reached) × (s.comes ≡ Some r) × (node ≡ r.node) × (t.input ≡ s.input) × (t.at ≡ s.at) × IsReached s.input s.at r
    × GoesOn s.input s.at r t.comes

-- More nodes than this don't come.
abbrev pub steps_left : List ℕ → Option Reached → ℕ
steps_left input None = 0
steps_left input (Some r) = suc (130 * (length input - r.node.at) + rank r.node.piece)
