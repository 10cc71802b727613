use Rattle.std.proofs.Common.{◌≤◌, length, take}
use Rattle.amqp_lengths.specs.Lengths.{Row}
use Rattle.amqp_lengths.specs.Stands.{AnyData}
use Rattle.amqp_paths.proofs.elements.element_within.Given as goal

abbrev pub invariant-loop-index : goal.invariant-loop-index
invariant-loop-index l =
    record {
      within : l.start ≤ length l.data;
      near : l.start ≤ l.room;
      few : l.index ≤ l.count;
      row : Row (AnyData l.shared.code) l.index (take l.start l.data);
    }
