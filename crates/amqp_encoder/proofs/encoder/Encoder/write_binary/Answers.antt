use Rattle.amqp_model.specs.Term.{binary}
use Rattle.amqp_encoder.proofs.Spelled.{is_binary}
use Rattle.amqp_encoder.proofs.encoder.Encoder.write_binary.Goals as goal

pub returns : goal.returns
returns g c = c.put_bytes.ensures (binary c.args.value.now) (is_binary c.args.value.now)
