use Rattle.std.proofs.Common.{arith}
use Rattle.amqp_decoder.proofs.Rows.{found_mark}
use Rattle.amqp_decoder.proofs.decoder.Decoder.shared_descriptor.Goals as goal

pub returns-then-self : goal.returns-then-self
returns-then-self g c =
    let h = c.get.ensures.lookup in
    rw (← c.self.view_is) (found_mark c.get.result _ _ _ _ _ _ c.deref.ensures.value c.from.ensures c.if-self-ne0.true c.if-self.true
    (omega (arith, c.self.invariant.2)) h.1 h.2)
