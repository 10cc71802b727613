-- The call that tells a field of a composite by its number (Part 1, section 1.4).
use Rattle.std.specs.Prelude.{◌≡◌, ◌⊎◌, ℕ, List}
use Rattle.amqp_wire.specs.declared.error.Error.{Error}
use Rattle.amqp_nodes.specs.Walks.{nothing}
use Rattle.amqp_nodes.specs.Fields.{IsField, IsOmitted, HasNoField}
use Rattle.amqp_nodes.specs.declared.nodes.Node.{Node}
use Rattle.amqp_c.specs.Outcomes.{done, refused_at}
use Rattle.amqp_c.specs.declared.outcome.Outcome.{Outcome}

-- The field's node is told, or a node of zeros if it is omitted; or the outcome says why there is none, and the node stays as it was.
abbrev pub TellsField : List ℕ → Node → ℕ → Node → Node → Outcome → Type 0
TellsField input composite index old new outcome = ((outcome ≡ done) × IsField input composite index new)
    ⊎ (((outcome ≡ done) × IsOmitted input composite index × (new ≡ nothing))
    ⊎ ((e : Error) × (outcome ≡ refused_at e 0) × HasNoField input composite index e × (new ≡ old)))
