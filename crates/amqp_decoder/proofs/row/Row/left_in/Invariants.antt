use Rattle.std.proofs.Common.{◌≡◌, ◌*◌, ◌^◌, ◌≤◌, take}
use Rattle.std.specs.List.{sum_by}
use Rattle.amqp_decoder.specs.Row.{left_of}
use Rattle.amqp_decoder.proofs.row.Row.left_in.Given as goal

abbrev pub invariant-loop-at : goal.invariant-loop-at
invariant-loop-at l = (l.sum ≡ sum_by left_of (take l.at l.self)) × (l.sum ≤ l.at * 2 ^ 32)
