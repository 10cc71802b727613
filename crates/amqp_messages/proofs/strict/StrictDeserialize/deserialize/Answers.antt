use Rattle.amqp_batches.specs.Walk.{Walked, WalkFault}
use Rattle.amqp_batches.proofs.Exits.{refused_at}
use Rattle.amqp_batches.proofs.RunSteps.{refused_via}
use Rattle.amqp_messages.specs.declared.order.Order.TheVariants.{Written}
use Rattle.amqp_messages.specs.MessageWalk.{message_walk}
use Rattle.amqp_messages.specs.Messages.{message_of, message_in}
use Rattle.amqp_messages.proofs.strict.StrictDeserialize.deserialize.Goals as goal

pub returns-in_err-read_message-clause-read : goal.returns-in_err-read_message-clause-read
returns-in_err-read_message-clause-read g c tells =
    let w = message_walk Written (message_of g.B.FromBody.made) in
    refused_at c.from_residual.result c.from_residual.ensures.1
    (refused_via (Walked w) (WalkFault w) message_in _ _ _ (c.in_err-read_message.ensures.read tells))
