use Rattle.std.proofs.Common.{refl}
use Rattle.amqp_model.specs.Term.{decimal128}
use Rattle.amqp_decoder.proofs.ReadPrimitives.{fixed_reads}
use Rattle.amqp_decoder.proofs.decoder.Decoder.read_dec128.Goals as goal

pub returns-clause-read : goal.returns-clause-read
returns-clause-read g c =
    λ told. fixed_reads decimal128 12 0x94 16 _ _ c.fixed.result (λ v. refl) refl refl (λ m e l. l) (λ b l. (l, refl, tt))
    (c.fixed.ensures.ok told) (c.fixed.ensures.err told)
