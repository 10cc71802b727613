use Rattle.std.proofs.Common.{length, ◌+◌, ◌*◌}
use Rattle.amqp_lengths.specs.Lengths.{IsTerm, IsData}
use Rattle.amqp_lengths.proofs.Rows.{Begins}
use Rattle.amqp_lengths.proofs.lengths.+term.Given as goal

abbrev pub decreases-array_len : goal.decreases-array_len
decreases-array_len l = 8 * length l.input.now + 1

abbrev pub decreases-list_len : goal.decreases-list_len
decreases-list_len l = 8 * length l.input.now + 1

abbrev pub decreases-data_len : goal.decreases-data_len
decreases-data_len l = 8 * length l.input.now + 2

abbrev pub decreases-walk_term : goal.decreases-walk_term
decreases-walk_term l = 8 * length l.input.now + 4

abbrev pub decreases-check_items : goal.decreases-check_items
decreases-check_items l = 8 * length l.content.now + 5

abbrev pub decreases-check_data : goal.decreases-check_data
decreases-check_data l = 8 * length l.content.now + 5

abbrev pub decreases-check_elements : goal.decreases-check_elements
decreases-check_elements l = 8 * length l.content.now + 6

abbrev pub invariant-check_data-loop-done : goal.invariant-check_data-loop-done
invariant-check_data-loop-done l = Begins (IsData l.code l.nesting) l.count l.content l.done l.len

abbrev pub invariant-check_items-loop-done : goal.invariant-check_items-loop-done
invariant-check_items-loop-done l = Begins (IsTerm l.nesting) l.count l.content l.done l.len
