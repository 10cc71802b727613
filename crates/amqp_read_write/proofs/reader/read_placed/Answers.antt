use Rattle.std.proofs.Common.{◌≡◌, ℕ, List, drop, Result, Ok, Err, IfOk, arith, ◌∙◌}
use Rattle.std.proofs.lemmas.Grind.{common_steps}
use Rattle.amqp_wire.specs.declared.error.Error.{Error}
use Rattle.amqp_read_write.proofs.reader.read_placed.Goals as goal

-- what is left of one reader is what is left of another
left_alike : {T : Type 0} (res : Result T Error) (reads : T → ℕ → Type 0) (input left there : List ℕ) → left ≡ there
    → IfOk res (λ v. (w : T) (n : ℕ) → reads w n → there ≡ drop n input) → IfOk res (λ v. (w : T) (n : ℕ) → reads w n → left ≡ drop n input)
left_alike (Ok v) reads input left there e h = λ w n k. e ∙ h w n k
left_alike (Err x) reads input left there e h = tt

pub returns-clause-behind : goal.returns-clause-behind
returns-clause-behind g c =
    λ told own. left_alike _ _ _ _ _ (grind (arith, common_steps)) (c.read_named-read.ensures.behind (λ r. told r.now) own)
