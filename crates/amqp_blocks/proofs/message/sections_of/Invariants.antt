use Rattle.std.proofs.Common.{◌≤◌, length}
use Rattle.amqp_outlines.specs.Spans.{IsOutline}
use Rattle.amqp_blocks.proofs.message.sections_of.Given as goal

abbrev pub invariant-sections : goal.invariant-sections
invariant-sections l =
    l.from ≤ length l.bytes → (l.from ≤ l.at) × (l.at ≤ length l.bytes) × IsOutline l.from l.at l.entries.items
