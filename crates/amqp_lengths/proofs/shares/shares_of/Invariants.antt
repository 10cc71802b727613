use Rattle.std.proofs.Common.{length}
use Rattle.amqp_lengths.proofs.DescriptorShares.{Taken}
use Rattle.amqp_lengths.proofs.shares.shares_of.Given as goal

abbrev pub invariant-loop-code : goal.invariant-loop-code
invariant-loop-code l = Taken l.constructor l.shares l.rest

abbrev pub decreases-loop-code : goal.decreases-loop-code
decreases-loop-code l = length l.rest
