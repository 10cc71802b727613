use Rattle.std.specs.Prelude.{[], ◌∷◌}
use Rattle.amqp_model.specs.Refusals.{Refuses}
use Rattle.amqp_encoder.proofs.Refused.{any_first, know_depths, refused}
use Rattle.amqp_encoder.proofs.laws.refusals_are_complete.Goals as goal

pub returns-clause-nesting : goal.returns-clause-nesting
returns-clause-nesting c deep us n = know_depths deep n us

pub returns-clause-complete : goal.returns-clause-complete
returns-clause-complete c deep us r n h = refused deep us r n h

pub returns-clause-of_one : goal.returns-clause-of_one
returns-clause-of_one c deep u r n h = refused deep (u ∷ []) r n (any_first (Refuses r) u [] h)
