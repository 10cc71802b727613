use Rattle.amqp_messages.proofs.StrictSteps.{strict_message}
use Rattle.amqp_messages.proofs.strict.decode_message_strict_within.Goals as goal

pub returns-in-Ok-clause-in_any_order : goal.returns-in-Ok-clause-in_any_order
returns-in-Ok-clause-in_any_order g c = strict_message g.B.FromBody.made c.args.limits.now

pub returns-in-Err-clause-in_any_order : goal.returns-in-Err-clause-in_any_order
returns-in-Err-clause-in_any_order g c = strict_message g.B.FromBody.made c.args.limits.now
