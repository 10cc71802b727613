use Rattle.std.proofs.Common.{◌≡◌, length, take, ◌-◌, ◌≤◌}
use Rattle.amqp_lengths.specs.Lengths.{HasMarks}
use Rattle.amqp_lengths.proofs.constructors.read_constructor.Given as goal

abbrev pub invariant-loop-code : goal.invariant-loop-code
invariant-loop-code l =
    record {
      within : l.len ≤ length l.input;
      few : l.descriptors ≤ 128;
      marks : HasMarks l.descriptors (take l.len l.input);
      same : l.left ≡ l.fn.left;
    }

abbrev pub decreases-loop-code : goal.decreases-loop-code
decreases-loop-code l = length l.input - l.len
