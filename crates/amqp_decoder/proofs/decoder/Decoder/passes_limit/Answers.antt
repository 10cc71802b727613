use Rattle.std.proofs.Common.{arith, ◌<◌}
use Rattle.std.proofs.lemmas.Bool.{ltb-true, ltb-false}
use Rattle.amqp_wire.specs.Limits.{unlimited}
use Rattle.amqp_decoder.proofs.Limits.{passes_none, within_none, not_sized}
use Rattle.amqp_decoder.proofs.decoder.Decoder.passes_limit.Goals as goal

pub returns-in-Some-clause-within : goal.returns-in-Some-clause-within
returns-in-Some-clause-within g c = rw (← c.self.view_is) (λ f e. absurd (not_sized _ _ _ c.in-Some.is e))

pub returns-in-None-clause-past : goal.returns-in-None-clause-past
returns-in-None-clause-past g c =
    let few : c.args.count < unlimited = omega arith in
    rw (← c.self.view_is) (λ t. passes_none _ c.self.inside.bytes c.args.count _ c.in-None.is c.from.ensures (ltb-true _ _ t) few)

pub returns-in-None-clause-within : goal.returns-in-None-clause-within
returns-in-None-clause-within g c =
    rw (← c.self.view_is) (λ f e. within_none _ c.self.inside.bytes c.args.count _ c.in-None.is c.from.ensures (ltb-false _ _ f))
