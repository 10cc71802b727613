use Rattle.std.proofs.Common.{◌<◌, ◌^◌, ap, ◌∙◌, sym, arith}
use Rattle.std.proofs.lemmas.Bool.{eqb-false}
use Rattle.amqp_wire.specs.Limits.{unlimited}
use Rattle.amqp_decoder.specs.State.{State}
use Rattle.amqp_decoder.proofs.Limits.{limited_most}
use Rattle.amqp_decoder.proofs.decoder.Decoder.is_unlimited.Goals as goal

pub returns-clause-limited : goal.returns-clause-limited
returns-clause-limited g c e =
    let fits : c.self.inside.items < 2 ^ 64 = omega arith in
    let (most, less, is) = limited_most c.self.inside.items fits (eqb-false c.self.inside.items unlimited e) in
    (most, less, ap (λ (x : State). x.quota) (sym c.self.view_is) ∙ is)
