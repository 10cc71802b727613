use Rattle.std.proofs.Common.{arith, unwrap_or, ap}
use Rattle.amqp_wire.specs.Limits.{limit_of}
use Rattle.amqp_decoder.specs.State.{State, bound_of, limit_around}
use Rattle.amqp_decoder.proofs.Rows.{stack_left}
use Rattle.amqp_decoder.proofs.decoder.Decoder.announced.Goals as goal

pub returns : goal.returns
returns g c =
    let d = c.self.inside in
    let top = ap (λ (x : State). unwrap_or (bound_of x.top) 0) c.self.view_is in
    let own = ap (λ o. unwrap_or o 0) c.left.ensures in
    rw (← c.self.view_is) (omega
    (arith, c.left_in.ensures.sum, own, top, stack_left d.descriptors.items (limit_around d.top.left (limit_of d.bytes)) d.depth d.frames))
