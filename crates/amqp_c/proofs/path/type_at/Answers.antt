use Rattle.std.proofs.Common.{◌∙◌, ℕ, inr, refl, subst}
use Rattle.std.proofs.lemmas.List.{take_rest}
use Rattle.amqp_lengths.specs.Fronts.{NoFront}
use Rattle.amqp_c.specs.Paths.{IsMarkOf}
use Rattle.amqp_c.proofs.path.type_at.Goals as goal

pub returns-in_default-descriptor_code : goal.returns-in_default-descriptor_code
returns-in_default-descriptor_code c =
    let there = c.in-Some.ensures.lookup.0.2 ∙ take_rest c.args.input.now c.args.at in
    inr (subst (λ z. (x : ℕ) → NoFront (IsMarkOf x) z) there c.in_default-descriptor_code.ensures, refl)
