use Rattle.std.proofs.lemmas.Str.{IsUtf8-from_ascii}
use Rattle.amqp_decoder.proofs.Steps.{answered}
use Rattle.amqp_decoder.proofs.decoder.Decoder.ascii.Goals as goal

pub returns-clause-err : goal.returns-clause-err
returns-clause-err g c = (
  λ h. let x = c.in-Err.ensures.succeeds (IsUtf8-from_ascii _ h) in absurd (cc),
  c.stop-in-Err.ensures.answer,
  answered _ _ _ _ c.stop-in-Err.ensures.kept c.stop-in-Err.ensures.answer,
)
