-- Lengths of terms.
use Rattle.std.specs.Prelude.{◌≡◌, ◌⊎◌, ℕ, List}
use Rattle.amqp_wire.specs.declared.error.Error.{Error}
use Rattle.amqp_lengths.specs.Fronts.{IsFront}
use Rattle.amqp_lengths.specs.Lengths.{IsTerm}
use Rattle.amqp_lengths.specs.Stands.{StandsAt}
use Rattle.amqp_nodes.specs.Terms.{RefusesTerm}
use Rattle.amqp_c.specs.declared.outcome.Outcome.{Outcome}
use Rattle.amqp_c.specs.Outcomes.{done, refused_at}

-- The length is told of the term that the input begins with; or there is none, the outcome says why, and the number stays as it was.
abbrev pub TellsLength : List ℕ → ℕ → ℕ → Outcome → Type 0
TellsLength input old new outcome = ((outcome ≡ done) × IsFront (IsTerm 128) input new)
    ⊎ ((e : Error) × (outcome ≡ refused_at e outcome.at) × RefusesTerm input e × (new ≡ old))

-- If the outcome is an error, something begins at its place that is wrong, as the error says.
abbrev pub TellsPlace : List ℕ → Outcome → Type 0
TellsPlace input outcome = (outcome ≡ done) ⊎ ((e : Error) × (outcome ≡ refused_at e outcome.at) × StandsAt input e outcome.at)
