use Rattle.std.proofs.Common.{◌≤◌, length, take}
use Rattle.amqp_lengths.specs.Lengths.{IsTerm, Row}
use Rattle.amqp_paths.proofs.items.item_within.Given as goal

abbrev pub invariant-loop-index : goal.invariant-loop-index
invariant-loop-index l =
    record {
      within : l.start ≤ length l.content;
      near : l.start ≤ l.room;
      few : l.index ≤ l.count;
      row : Row (IsTerm 128) l.index (take l.start l.content);
    }
