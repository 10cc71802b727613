use Rattle.std.proofs.Common.{rules}
use Rattle.amqp_lines.proofs.SetLimits.{with_its_feed}
use Rattle.amqp_lines.proofs.answer.Answer.printed.Goals as goal

pub returns-in_ok-format-in-Limited-clause-printed : goal.returns-in_ok-format-in-Limited-clause-printed
returns-in_ok-format-in-Limited-clause-printed c = rw c.in-Limited.is (search (rules, with_its_feed))
