use Rattle.std.proofs.Common.{refl, rules}
use Rattle.amqp_model.specs.Term.{ubyte}
use Rattle.amqp_encoder.proofs.encoder.Encoder.write_ubyte.Goals as goal

pub returns : goal.returns
returns g c = c.put.ensures (ubyte c.args.value)
    (record { alone = search rules; in_array = search rules; measured = (λ m. refl); filled = (λ f. refl) })
