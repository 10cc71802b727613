use Rattle.std.proofs.Common.{sym, ap, ◌∙◌}
use Rattle.amqp_wire.specs.Limits.{limit_of}
use Rattle.amqp_decoder.specs.State.{State, bound_of}
use Rattle.amqp_decoder.proofs.Rows.{bound_is}
use Rattle.amqp_decoder.proofs.decoder.Decoder.left.Goals as goal

pub returns : goal.returns
returns g c =
    sym (bound_is c.self.inside.top.left (limit_of c.self.inside.bytes)) ∙ ap (λ (x : State). bound_of x.top) c.self.view_is
