use Rattle.std.proofs.Common.{◌≤◌, length, take}
use Rattle.amqp_lengths.specs.Lengths.{HasMarks}
use Rattle.amqp_paths.proofs.descriptors.marks_within.Given as goal

abbrev pub invariant-loop-descriptors : goal.invariant-loop-descriptors
invariant-loop-descriptors l =
    record {
      within : l.len ≤ length l.input;
      near : l.len ≤ l.room;
      few : l.descriptors ≤ 128;
      marks : HasMarks l.descriptors (take l.len l.input);
    }
