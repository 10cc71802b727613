use Rattle.amqp_model.specs.Term.{null}
use Rattle.amqp_decoder.specs.Primitives.{Means}
use Rattle.amqp_decoder.specs.Reading.{BeginFault}
use Rattle.amqp_decoder.proofs.Peeks.{value-peeked}
use Rattle.amqp_decoder.specs.Places.{Here}
use Rattle.amqp_codec.specs.FieldReading.{TakesNull}
use Rattle.amqp_codec.proofs.Options.{null_refused}
use Rattle.amqp_codec.proofs.fields.takes_null.Goals as goal

pub returns-in-Ok-clause-read : goal.returns-in-Ok-clause-read
returns-in-Ok-clause-read g c tells =
    (value-peeked (Means (λ (_ : Unit {0}). null)) _ _ _ _ tt c.in-Some-eq64.ensures.read).0 (c.in-Ok.ensures.read tells)

pub returns-in-Err-clause-read : goal.returns-in-Err-clause-read
returns-in-Err-clause-read g c tells =
    null_refused TakesNull (Here BeginFault) _ _ _ _ _ c.in-Some-eq64.ensures.read c.in-Some-eq64.field-0-test (c.in-Err.ensures.read tells)
