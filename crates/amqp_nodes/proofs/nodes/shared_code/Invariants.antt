use Rattle.std.proofs.Common.{length, ◌-◌, ◌≤◌}
use Rattle.amqp_nodes.proofs.Shared.{Left}
use Rattle.amqp_nodes.proofs.nodes.shared_code.Given as goal

abbrev pub invariant-loop-code : goal.invariant-loop-code
invariant-loop-code l = record { within : l.len ≤ length l.bytes; left : Left l.bytes l.len }

abbrev pub decreases-loop-code : goal.decreases-loop-code
decreases-loop-code l = length l.bytes - l.len
