use Rattle.std.proofs.Common.{refl, rules}
use Rattle.amqp_model.specs.Term.{ushort}
use Rattle.amqp_encoder.proofs.encoder.Encoder.write_ushort.Goals as goal

pub returns : goal.returns
returns g c = c.put.ensures (ushort c.args.value)
    (record { alone = search rules; in_array = search rules; measured = (λ m. refl); filled = (λ f. refl) })
