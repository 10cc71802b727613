use Rattle.std.proofs.Common.{refl}
use Rattle.amqp_codec.specs.laws.Refusal.{refused_first}
use Rattle.amqp_messages.proofs.read.put_section.Goals as goal

pub returns-in-Err-clause-read : goal.returns-in-Err-clause-read
returns-in-Err-clause-read g c = λ tells.
    refused_first _ _ _ _ _ _ _ (λ _. refl) (λ _ h. h) (λ n. n) (c.in-Err.ensures.read tells)
