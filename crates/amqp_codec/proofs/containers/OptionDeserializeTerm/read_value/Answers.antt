use Rattle.std.proofs.Common.{inl}
use Rattle.std.proofs.lemmas.Result.{err_from_is_err_and}
use Rattle.amqp_decoder.specs.Reading.{PeeksCode, BeginFault}
use Rattle.amqp_decoder.specs.Places.{Here}
use Rattle.amqp_decoder.proofs.Places.{refused_here}
use Rattle.amqp_codec.specs.laws.Refusal.{no_memory, refused_first}
use Rattle.amqp_codec.specs.laws.Peek.{value_peeked}
use Rattle.amqp_codec.proofs.Options.{null_refused, none_read, some_read, some_refused}
use Rattle.amqp_codec.proofs.containers.OptionDeserializeTerm.read_value.Goals as goal

pub returns-in_err-peek_code-clause-read : goal.returns-in_err-peek_code-clause-read
returns-in_err-peek_code-clause-read g c tells =
    let p = err_from_is_err_and c.from_residual.result c.from_residual.ensures.1 in
    rw (p.1, p.2) (refused_first PeeksCode (Here BeginFault) _ _ _ _ _ no_memory (λ _. inl) (value_peeked _ _)
    (refused_here (c.in_err-peek_code.ensures.read tells) c.in_err-peek_code.ensures.place))

pub returns-in_err-read_null-clause-read : goal.returns-in_err-read_null-clause-read
returns-in_err-read_null-clause-read g c tells =
    let p = err_from_is_err_and c.from_residual-in_err-read_null.result c.from_residual-in_err-read_null.ensures.1 in
    rw (p.1, p.2) (null_refused _ _ _ _ _ _ _ (c.in_ok-peek_code.ensures.read tells) c.if-branch-eq-NULL.true (c.in_err-read_null.ensures.read tells))

pub returns-then-branch-eq-NULL-clause-read : goal.returns-then-branch-eq-NULL-clause-read
returns-then-branch-eq-NULL-clause-read g c tells =
    none_read g.T.DeserializeTerm.term _ _ _ _ (c.in_ok-peek_code.ensures.read tells) (c.in_ok-read_null.ensures.read tells)

pub returns-in-Ok-clause-read : goal.returns-in-Ok-clause-read
returns-in-Ok-clause-read g c tells =
    some_read g.T.DeserializeTerm.term _ _ _ _ _ (c.in_ok-peek_code.ensures.read tells) c.if-branch-eq-NULL.false (c.in-Ok.ensures.read tells)

pub returns-in-Err-clause-read : goal.returns-in-Err-clause-read
returns-in-Err-clause-read g c tells =
    some_refused g.T.DeserializeTerm.term _ _ _ _ _ (c.in_ok-peek_code.ensures.read tells) c.if-branch-eq-NULL.false
    (c.in-Err.ensures.read tells)
