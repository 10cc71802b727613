use Rattle.std.proofs.Common.{refl}
use Rattle.amqp_model.specs.Term.{binary}
use Rattle.std.proofs.Common.{Vec, Global, ℕ}
use Rattle.amqp_decoder.proofs.SizedTexts.{text_reads}
use Rattle.amqp_decoder.proofs.decoder.Decoder.any_binary.Goals as goal

pub returns-clause-read : goal.returns-clause-read
returns-clause-read g c =
    λ told. text_reads (λ (v : Vec ℕ Global). v.items) 16 0xa0 0xb0 binary _ _ c.content.result
    (record { short_code = refl; long_code = refl; kind = λ s. refl; codes = refl }) (λ s. tt) (c.content.ensures.ok told)
    (c.content.ensures.err told)
