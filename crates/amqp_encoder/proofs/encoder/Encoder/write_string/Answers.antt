use Rattle.amqp_model.specs.Term.{string}
use Rattle.amqp_encoder.proofs.Spelled.{is_string}
use Rattle.amqp_encoder.proofs.encoder.Encoder.write_string.Goals as goal

pub returns : goal.returns
returns g c = rw (← c.as_bytes.ensures.value) (c.put_bytes.ensures (string c.as_bytes.result.now) (is_string c.as_bytes.result.now))
