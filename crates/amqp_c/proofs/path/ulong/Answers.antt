use Rattle.amqp_c.proofs.Codes.{no_bytes, one_byte, eight_bytes}
use Rattle.amqp_c.proofs.path.ulong.Goals as goal

pub returns-in-68 : goal.returns-in-68
returns-in-68 c = (1, no_bytes _ _ _ c.in_ok-code.ensures.cases.0 c.in-68.is)

pub returns-in_ok-number-in-83 : goal.returns-in_ok-number-in-83
returns-in_ok-number-in-83 c =
    (2, rw c.from.ensures (one_byte _ _ _ _ _ c.in_ok-code.ensures.cases.0 c.in-83.is c.in_ok-number-in-83.ensures.cases.0))

pub returns-in-len8-up : goal.returns-in-len8-up
returns-in-len8-up c =
    (9, eight_bytes _ _ _ _ c.in_ok-code.ensures.cases.0 c.in-128.is c.in-len8-up.len_at_least c.from_be_bytes.ensures)
