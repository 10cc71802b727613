use Rattle.std.proofs.Common.{rules, arith, ◌≡◌, length}
use Rattle.amqp_decoder.proofs.Quick.{element_reads}
use Rattle.amqp_decoder.proofs.decoder.Decoder.element.Goals as goal

pub returns-clause-read : goal.returns-clause-read
returns-clause-read g c = λ told.
    let pulled = c.take_ready.ensures.taken told (search rules) in
    let long : length c.take_ready.new.buffer ≡ g.row.N = omega (arith, c.take_ready.auto.buffer) in
    element_reads c.args.self.now c.args.code g.row.N c.take_ready.new.buffer c.take_ready.new.self c.take_item.new.self
    c.count_begun.new.self (c.is_element.ensures (search rules)) long pulled c.take_item.ensures c.count_begun.ensures.new
