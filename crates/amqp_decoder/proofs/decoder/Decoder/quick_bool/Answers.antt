use Rattle.std.proofs.Common.{refl}
use Rattle.amqp_model.specs.Term.{boolean}
use Rattle.amqp_decoder.proofs.ReadPrimitives.{fixed_value}
use Rattle.amqp_decoder.proofs.decoder.Decoder.quick_bool.Goals as goal

pub returns-in_ok-_code-in-65-clause-read : goal.returns-in_ok-_code-in-65-clause-read
returns-in_ok-_code-in-65-clause-read g c = λ told.
    let f = c.in_ok-_code-in-65.ensures.read told in fixed_value boolean 65 0 _ _ _ _ (f.width, refl, tt) f

pub returns-in_ok-_code-in-66-clause-read : goal.returns-in_ok-_code-in-66-clause-read
returns-in_ok-_code-in-66-clause-read g c = λ told.
    let f = c.in_ok-_code-in-66.ensures.read told in fixed_value boolean 66 0 _ _ _ _ (f.width, refl, tt) f
