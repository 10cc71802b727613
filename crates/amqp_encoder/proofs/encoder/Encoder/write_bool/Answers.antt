use Rattle.std.proofs.Common.{refl, true, false}
use Rattle.amqp_model.specs.Term.{boolean}
use Rattle.amqp_encoder.proofs.encoder.Encoder.write_bool.Goals as goal

pub returns-then-value : goal.returns-then-value
returns-then-value g c =
    rw c.if-value.true (c.put.ensures (boolean true)
    (record { alone = refl; in_array = refl; measured = (λ m. refl); filled = (λ f. refl) }))

pub returns-else-value : goal.returns-else-value
returns-else-value g c =
    rw c.if-value.false (c.put-else-value.ensures (boolean false)
    (record { alone = refl; in_array = refl; measured = (λ m. refl); filled = (λ f. refl) }))
