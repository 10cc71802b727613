use Rattle.std.proofs.Common.{refl, rules}
use Rattle.amqp_model.specs.Term.{char}
use Rattle.amqp_encoder.proofs.encoder.Encoder.write_char.Goals as goal

pub returns : goal.returns
returns g c = c.put.ensures (char c.args.value)
    (record { alone = search rules; in_array = search rules; measured = (λ m. refl); filled = (λ f. refl) })
