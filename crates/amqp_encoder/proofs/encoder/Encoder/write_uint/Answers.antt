use Rattle.std.proofs.Common.{refl, rules}
use Rattle.amqp_model.specs.Term.{uint}
use Rattle.amqp_encoder.proofs.encoder.Encoder.write_uint.Goals as goal

pub returns-then-puts_plain : goal.returns-then-puts_plain
returns-then-puts_plain g c = c.if-puts_plain.ensures.written (uint c.args.value)
    (record { alone = search rules; in_array = search rules; measured = (λ m. refl); filled = (λ f. refl) })
