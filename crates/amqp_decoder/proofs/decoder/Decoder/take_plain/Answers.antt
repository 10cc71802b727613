use Rattle.std.proofs.Common.{rules, arith, ◌≡◌, length}
use Rattle.amqp_decoder.proofs.Quick.{quick_reads, quick_moved}
use Rattle.amqp_decoder.proofs.decoder.Decoder.take_plain.Goals as goal

pub returns-clause-read : goal.returns-clause-read
returns-clause-read g c = λ told.
    let pulled = c.take_ready.ensures.taken told (search rules) in
    let long : length c.take_ready.new.buffer ≡ g.row.N = omega (arith, c.take_ready.auto.buffer) in
    quick_reads c.args.self.now c.args.code g.row.N c.take_ready.new.buffer c.count_begun.new.self c.requires.plain
    (c.has_left.ensures.0 (search rules)) c.requires.some long c.requires.next pulled.rest
    (quick_moved _ _ c.take_ready.new.buffer _ c.take_ready.new.self c.take_item.new.self _ long pulled.moved
    c.take_item.ensures c.count_begun.ensures.new)
