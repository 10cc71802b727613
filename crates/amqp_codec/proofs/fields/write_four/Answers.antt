use Rattle.std.proofs.Common.{◌≡◌, ◌+◌, arith}
use Rattle.amqp_codec.proofs.fields.write_four.Goals as goal

pub returns-clause-written : goal.returns-clause-written
returns-clause-written g c start p =
    let second : g.row.FROM + 1 + 1 ≡ g.row.FROM + 2 = omega arith in
    let third : g.row.FROM + 2 + 1 ≡ g.row.FROM + 3 = omega arith in
    let last : g.row.FROM + 3 + 1 ≡ g.row.FROM + 4 = omega arith in
    let b = c.in_ok-write_one-2.ensures.written start (c.in_ok-write_one.ensures.written start p) in
    let d = c.in_ok-write_one-3.ensures.written start (rw second at b) in
    let e = c.write_one-4.ensures.written start (rw third at d) in
    rw last at e
