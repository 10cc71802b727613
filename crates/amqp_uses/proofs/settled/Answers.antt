use Rattle.std.proofs.Common.{◌⊎◌, inl, inr}
use Rattle.amqp_uses.proofs.settled.Goals as goal

second : {A B C : Type 0} → (A × B) ⊎ C → B ⊎ C
second (inl both) = inl both.1
second (inr other) = inr other

pub returns-in-Err-clause-refused : goal.returns-in-Err-clause-refused
returns-in-Err-clause-refused c = second c.in-Err.ensures.refused
