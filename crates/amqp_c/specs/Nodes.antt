-- The call that tells a node (Part 1, section 1.2).
use Rattle.std.specs.Prelude.{◌≡◌, ◌⊎◌, ℕ, List}
use Rattle.amqp_wire.specs.declared.error.Error.{Error}
use Rattle.amqp_nodes.specs.Nodes.{IsNode, IsNoNode}
use Rattle.amqp_nodes.specs.declared.nodes.Node.{Node}
use Rattle.amqp_c.specs.Outcomes.{done, refused_at}
use Rattle.amqp_c.specs.declared.outcome.Outcome.{Outcome}

-- The node is told that begins at the place; or the outcome says why there is none, and the node around stays there.
abbrev pub TellsNode : List ℕ → ℕ → Node → Node → Outcome → Type 0
TellsNode input at around node outcome = ((outcome ≡ done) × IsNode input at around node)
    ⊎ ((e : Error) × (outcome ≡ refused_at e 0) × IsNoNode input at around e × (node ≡ around))
