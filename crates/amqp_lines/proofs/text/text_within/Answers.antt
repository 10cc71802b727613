use Rattle.amqp_lines.proofs.Texts.{taken_within}
use Rattle.amqp_lines.proofs.text.text_within.Goals as goal

pub returns-clause-within : goal.returns-clause-within
returns-clause-within g c =
    taken_within c.args.limits.now _ _ c.args.input.now (λ a. a.0.items) (λ a. a.1) _ c.canonical_text_within.ensures.text
