use Rattle.std.proofs.Common.{ap, ◌∙◌}
use Rattle.amqp_encoder.specs.Gives.{fill_bytes}
use Rattle.amqp_encoder.proofs.Settled.{filled, from_take, instead}
use Rattle.amqp_encoder.proofs.Spelled.{filled_symbol}
use Rattle.amqp_encoder.proofs.fill.FillPass.put_symbol.Goals as goal

pub returns-clause-passes : goal.returns-clause-passes
returns-clause-passes g c =
    filled _ _ _ _ (instead _ _ _ _
    (ap (λ b. fill_bytes 0xa3 0xb3 b c.args.self.now) c.as_bytes.ensures.value ∙ filled_symbol c.args.text.now c.args.self.now)
    c.fill_bytes.ensures.does)

pub returns-clause-kept : goal.returns-clause-kept
returns-clause-kept g c = from_take _ _ c.fill_bytes.ensures.kept
