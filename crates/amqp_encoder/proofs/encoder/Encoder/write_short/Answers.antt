use Rattle.std.proofs.Common.{refl, rules}
use Rattle.amqp_model.specs.Term.{short}
use Rattle.amqp_encoder.proofs.encoder.Encoder.write_short.Goals as goal

pub returns : goal.returns
returns g c = c.put.ensures (short c.args.value)
    (record { alone = search rules; in_array = search rules; measured = (λ m. refl); filled = (λ f. refl) })
