use Rattle.amqp_lines.proofs.Requests.{no_space_asks_nothing, other_name_asks_nothing, other_digits_ask_nothing}
use Rattle.amqp_lines.proofs.request.Request.from_line.Goals as goal

pub returns-in_default-clause-asked : goal.returns-in_default-clause-asked
returns-in_default-clause-asked c = no_space_asks_nothing c.args.line.now c.in_default.ensures

pub returns-in_default-from_bytes-clause-asked : goal.returns-in_default-from_bytes-clause-asked
returns-in_default-from_bytes-clause-asked c =
    other_name_asks_nothing c.args.line.now c.in-Some.space c.in-Some.ensures c.in_default-from_bytes.ensures

pub returns-in_default-2-clause-asked : goal.returns-in_default-2-clause-asked
returns-in_default-2-clause-asked c =
    other_digits_ask_nothing c.args.line.now c.in-Some.space c.in-Some.ensures (rw c.in_default-2.is at c.in_ok-input.ensures.stands)
