-- Which errors have a place.
use Rattle.std.proofs.Common.{◌≡◌, ℕ, List, inr, refl, sym, subst}
use Rattle.amqp_wire.specs.declared.error.Error.{Error}
use Rattle.amqp_wire.specs.declared.error.Error.TheVariants.{Memory, Read, MixedArray, TooLarge}
use Rattle.amqp_wire.specs.declared.refusal.Refusal.{Refusal}
use Rattle.amqp_lengths.specs.Stands.{StandsAt}
use Rattle.amqp_c.specs.Outcomes.{place_in, outcome_of}
use Rattle.amqp_c.specs.Terms.{TellsPlace}
use Rattle.amqp_c.specs.declared.outcome.Outcome.{Outcome}

-- what stands at a place is a fault of bytes
placed : (e : Error) (input : List ℕ) (at : ℕ) → StandsAt input e at → place_in e at ≡ at
placed Memory input at (left, is, h) = absurd h.wrong
placed (Read kind) input at (left, is, h) = absurd h.wrong
placed MixedArray input at (left, is, h) = absurd h.wrong
placed TooLarge input at (left, is, h) = absurd h.wrong
placed _ input at h = refl

pub place_told : (input : List ℕ) (r : Refusal) (o : Outcome) → o ≡ outcome_of r → StandsAt input r.error r.at → TellsPlace input o
place_told input r o is h =
    subst (TellsPlace input) (sym is) (inr (r.error, refl, subst (StandsAt input r.error) (sym (placed r.error input r.at h)) h))
