use Rattle.std.proofs.Common.{refl}
use Rattle.amqp_model.specs.Term.{uuid}
use Rattle.amqp_decoder.proofs.ReadPrimitives.{fixed_reads}
use Rattle.amqp_decoder.proofs.decoder.Decoder.read_uuid.Goals as goal

pub returns-clause-read : goal.returns-clause-read
returns-clause-read g c =
    λ told. fixed_reads uuid 15 0x98 16 _ _ c.fixed.result (λ v. refl) refl refl (λ m e l. l) (λ b l. (l, refl, tt))
    (c.fixed.ensures.ok told) (c.fixed.ensures.err told)
