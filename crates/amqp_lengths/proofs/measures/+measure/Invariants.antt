use Rattle.std.proofs.Common.{◌≡◌, [], length, ◌+◌, ◌*◌}
use Rattle.amqp_model.specs.Term.{Terms, count}
use Rattle.amqp_model.specs.Spelling.{AreItemsOf, AreSharedDataOf}
use Rattle.amqp_lengths.proofs.Measured.{Left}
use Rattle.amqp_lengths.proofs.measures.+measure.Given as goal

abbrev pub decreases-measure_data : goal.decreases-measure_data
decreases-measure_data l = 8 * length l.input.now + 3

abbrev pub decreases-measure_container : goal.decreases-measure_container
decreases-measure_container l = 8 * length l.input.now + 2

abbrev pub decreases-measure_term : goal.decreases-measure_term
decreases-measure_term l = 8 * length l.input.now + 4

abbrev pub decreases-measure_items : goal.decreases-measure_items
decreases-measure_items l = 8 * length l.content.now + 5

abbrev pub decreases-measure_shared : goal.decreases-measure_shared
decreases-measure_shared l = 8 * length l.content.now + 5

abbrev pub decreases-measure_elements : goal.decreases-measure_elements
decreases-measure_elements l = 8 * length l.content.now + 6

abbrev pub decreases-measure_content : goal.decreases-measure_content
decreases-measure_content l = 8 * length l.content.now + 7

abbrev pub invariant-measure_items-loop-done : goal.invariant-measure_items-loop-done
invariant-measure_items-loop-done l =
    (ts : Terms) → count ts ≡ l.count → AreItemsOf ts l.content → Left AreItemsOf ts l.content l.done l.len l.nodes l.nesting l.weight

abbrev pub invariant-measure_shared-loop-done : goal.invariant-measure_shared-loop-done
invariant-measure_shared-loop-done l =
    (ts : Terms) → count ts ≡ l.count → AreSharedDataOf ts [] l.code l.content
    → Left (λ us b. AreSharedDataOf us [] l.code b) ts l.content l.done l.len l.nodes l.nesting l.weight
