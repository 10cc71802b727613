use Rattle.std.proofs.Common.{rules, arith, ◌≡◌, length}
use Rattle.amqp_decoder.proofs.Quick.{quick_begins, quick_moved}
use Rattle.amqp_decoder.proofs.decoder.Decoder.quick_code.Goals as goal

pub returns-clause-read : goal.returns-clause-read
returns-clause-read g c = λ told.
    let pulled = c.take_ready.ensures.taken told (search rules) in
    let long : length c.take_ready.new.buffer ≡ 1 = omega (arith, c.take_ready.auto.buffer) in
    quick_begins c.args.self.now c.take_ready.new.buffer c.count_begun.new.self (c.is_plain.ensures (search rules))
    (c.has_left.ensures.0 (search rules)) long pulled.rest
    (quick_moved _ _ c.take_ready.new.buffer _ c.take_ready.new.self c.take_item.new.self _ long pulled.moved
    c.take_item.ensures c.count_begun.ensures.new)
