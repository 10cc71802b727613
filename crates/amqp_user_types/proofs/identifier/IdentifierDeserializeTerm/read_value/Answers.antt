use Rattle.std.proofs.Common.{rules}
use Rattle.std.proofs.lemmas.Result.{err_from_is_err_and}
use Rattle.amqp_decoder.specs.Reading.{PeeksCode, BeginFault}
use Rattle.amqp_decoder.specs.Places.{Here}
use Rattle.amqp_decoder.proofs.Places.{refused_here}
use Rattle.amqp_codec.specs.laws.Refusal.{no_memory, refused_first}
use Rattle.amqp_codec.specs.laws.Peek.{value_peeked}
use Rattle.amqp_codec.specs.EitherMeaning.{no_value}
use Rattle.amqp_user_types.proofs.IdentifierReads.{number_read, name_read, number_refused, name_refused, tests_number, tests_name}
use Rattle.amqp_user_types.proofs.identifier.IdentifierDeserializeTerm.read_value.Goals as goal

pub returns-in_err-peek_code-clause-read : goal.returns-in_err-peek_code-clause-read
returns-in_err-peek_code-clause-read g c tells =
    let p = err_from_is_err_and c.from_residual.result c.from_residual.ensures.1 in
    rw (p.1, p.2) (refused_first PeeksCode (Here BeginFault) _ _ _ _ _ no_memory (λ _. no_value) (value_peeked _ _)
    (refused_here (c.in_err-peek_code.ensures.read tells) c.in_err-peek_code.ensures.place))

pub returns-in_err-read_value-in-68-clause-read : goal.returns-in_err-read_value-in-68-clause-read
returns-in_err-read_value-in-68-clause-read g c tells =
    let p = err_from_is_err_and c.from_residual-in_err-read_value-in-68.result c.from_residual-in_err-read_value-in-68.ensures.1 in
    rw (p.1, p.2)
    (number_refused _ _ _ (c.in_ok-peek_code.ensures.read tells) _ _ (tests_number _ c.in-68.is) (c.in_err-read_value-in-68.ensures.read tells))

pub returns-in_err-read_value-in_default-clause-read : goal.returns-in_err-read_value-in_default-clause-read
returns-in_err-read_value-in_default-clause-read g c tells =
    let r = c.from_residual-in_err-read_value-in_default in
    let p = err_from_is_err_and r.result r.ensures.1 in
    rw (p.1, p.2)
    (name_refused _ _ _ (c.in_ok-peek_code.ensures.read tells) _ _
    (tests_name c.in_ok-peek_code.field-0 (search rules) (search rules) (search rules))
    (c.in_err-read_value-in_default.ensures.read tells))

pub returns-in_ok-read_value-in-68-clause-read : goal.returns-in_ok-read_value-in-68-clause-read
returns-in_ok-read_value-in-68-clause-read g c tells = number_read _ _ _ (c.in_ok-peek_code.ensures.read tells) _ _ (c.in_ok-read_value-in-68.ensures.read tells)

pub returns-in_ok-read_value-in_default-clause-read : goal.returns-in_ok-read_value-in_default-clause-read
returns-in_ok-read_value-in_default-clause-read g c tells =
    name_read _ _ _ (c.in_ok-peek_code.ensures.read tells) _ _ (c.in_ok-read_value-in_default.ensures.read tells)
