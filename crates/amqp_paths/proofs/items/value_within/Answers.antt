use Rattle.std.proofs.Common.{rules, ◌≡◌, ◌≤◌, length, take, arith}
use Rattle.amqp_paths.proofs.Named.{value_answered}
use Rattle.amqp_paths.proofs.items.value_within.Goals as goal

pub returns : goal.returns
returns c =
    let there : (c.in_ok-announced.announced ≤ length c.args.input.now) × (c.in_ok-get.field-0.now ≡ take c.in_ok-announced.announced c.args.input.now) =
    search rules in
    value_answered c.args.input.now c.in_ok-get.field-0.now c.args.room c.in_ok-announced.announced c.announced_value.result c.ok.result
    c.term_len.result there.0 there.1 (omega (arith, c.if-announced-room.false)) c.announced_value.ensures c.in_ok-announced.was
    c.term_len.ensures.found c.term_len.ensures.none c.ok.ensures.value
