use Rattle.std.proofs.Common.{refl, rules}
use Rattle.amqp_model.specs.Term.{decimal64}
use Rattle.amqp_encoder.proofs.encoder.Encoder.write_dec64.Goals as goal

pub returns : goal.returns
returns g c = c.put.ensures (decimal64 c.args.value)
    (record { alone = search rules; in_array = search rules; measured = (λ m. refl); filled = (λ f. refl) })
