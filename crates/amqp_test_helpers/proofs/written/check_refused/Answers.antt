use Rattle.std.proofs.Common.{rules}
use Rattle.amqp_test_helpers.proofs.written.check_refused.Goals as goal

pub returns-in-Err : goal.returns-in-Err
returns-in-Err g c = (
  c.in_ok-input.input.items,
  c.in-Err.error,
  c.in_ok-input.ensures.ok,
  search rules,
  rw c.as_slice.ensures.value at c.in-Err.ensures.refused,
)
