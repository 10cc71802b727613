use Rattle.amqp_codec.specs.Reading.{greatest}
use Rattle.amqp_messages.proofs.StrictSteps.{strict_message}
use Rattle.amqp_messages.proofs.strict.decode_message_strict.Goals as goal

pub returns-in-Ok-clause-in_any_order : goal.returns-in-Ok-clause-in_any_order
returns-in-Ok-clause-in_any_order g c = strict_message g.B.FromBody.made greatest

pub returns-in-Err-clause-in_any_order : goal.returns-in-Err-clause-in_any_order
returns-in-Err-clause-in_any_order g c = strict_message g.B.FromBody.made greatest
