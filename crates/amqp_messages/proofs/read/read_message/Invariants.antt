use Rattle.std.proofs.Common.{◌≡◌, ◌⊎◌}
use Rattle.amqp_wire.specs.Sources.{Tells}
use Rattle.amqp_decoder.specs.Steps.{Began, Passed}
use Rattle.amqp_batches.proofs.WalkSteps.{SoFar}
use Rattle.amqp_messages.specs.MessageWalk.{message_walk}
use Rattle.amqp_messages.specs.Messages.{fields_in, message_of}
use Rattle.amqp_messages.proofs.read.read_message.Given as goal

abbrev pub invariant-loop-groups : goal.invariant-loop-groups
invariant-loop-groups g l = record {
  so_far : Tells g.R.ByteSource.remaining
      → SoFar (message_walk l.fn.order (message_of g.B.FromBody.made)) l.fn.decoder (record { left = l.left; part = fields_in l.groups }) l.decoder;
  passed : Passed l.fn.decoder l.decoder;
  began : (l.left ≡ 7) ⊎ Began l.fn.decoder l.decoder;
}

abbrev pub decreases-loop-groups : goal.decreases-loop-groups
decreases-loop-groups g l = l.left
