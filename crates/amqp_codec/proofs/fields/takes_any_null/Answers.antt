use Rattle.std.proofs.lemmas.Result.{err_from_is_err_and}
use Rattle.amqp_model.specs.Term.{null}
use Rattle.amqp_decoder.specs.Primitives.{Means}
use Rattle.amqp_decoder.specs.Reading.{BeginFault}
use Rattle.amqp_decoder.proofs.Peeks.{value-peeked}
use Rattle.amqp_decoder.specs.Places.{Here}
use Rattle.amqp_codec.specs.FieldReading.{TakesNull}
use Rattle.amqp_codec.proofs.NullSteps.{unpeeked}
use Rattle.amqp_codec.proofs.Options.{null_refused}
use Rattle.amqp_codec.proofs.fields.takes_any_null.Goals as goal

pub returns-in_err-peek_code-clause-read : goal.returns-in_err-peek_code-clause-read
returns-in_err-peek_code-clause-read g c tells =
    let p = err_from_is_err_and c.from_residual.result c.from_residual.ensures.1 in
    rw (p.1, p.2) (unpeeked _ _ _ (c.in_err-peek_code.ensures.read tells) c.in_err-peek_code.ensures.place)

pub returns-then-branch-ne-NULL-clause-read : goal.returns-then-branch-ne-NULL-clause-read
returns-then-branch-ne-NULL-clause-read g c tells = (_, c.in_ok-peek_code.ensures.read tells, c.if-branch-ne-NULL.true)

pub returns-in_err-read_null-clause-read : goal.returns-in_err-read_null-clause-read
returns-in_err-read_null-clause-read g c tells =
    let p = err_from_is_err_and c.from_residual-in_err-read_null.result c.from_residual-in_err-read_null.ensures.1 in
    rw (p.1, p.2) (null_refused TakesNull (Here BeginFault) _ _ _ _ _ (c.in_ok-peek_code.ensures.read tells) c.if-branch-ne-NULL.false
    (c.in_err-read_null.ensures.read tells))

pub returns-clause-read : goal.returns-clause-read
returns-clause-read g c tells =
    (value-peeked (Means (λ (_ : Unit {0}). null)) _ _ _ _ tt (c.in_ok-peek_code.ensures.read tells)).0 (c.in_ok-read_null.ensures.read tells)
