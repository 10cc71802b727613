use Rattle.std.proofs.Common.{refl, rules}
use Rattle.amqp_model.specs.Term.{int}
use Rattle.amqp_encoder.proofs.encoder.Encoder.write_int_apart.Goals as goal

pub returns : goal.returns
returns g c = c.put_any.ensures (int c.args.value)
    (record { alone = search rules; in_array = search rules; measured = (λ m. refl); filled = (λ f. refl) })
