use Rattle.std.proofs.Common.{false, true, ◌∙◌, sym, ap}
use Rattle.std.proofs.lemmas.Result.{err_from_is_err_and}
use Rattle.amqp_decoder.specs.Reading.{PeeksCode, BeginFault}
use Rattle.amqp_decoder.specs.Places.{Here}
use Rattle.amqp_decoder.proofs.Places.{refused_here}
use Rattle.amqp_codec.specs.laws.Refusal.{no_memory, refused_first}
use Rattle.amqp_codec.specs.laws.Peek.{value_peeked}
use Rattle.amqp_codec.specs.EitherMeaning.{no_value}
use Rattle.amqp_simple_values.specs.Simple.{is_container}
use Rattle.amqp_simple_values.proofs.SimpleReads.{container_refused, value_refused, value_read, other_read}
use Rattle.amqp_codec.proofs.Tries.{taking_some, refused_more, refused_behind}
use Rattle.amqp_simple_values.proofs.read.SimpleValueDeserializeTerm.read_value.Goals as goal

pub returns-in_err-code-clause-read : goal.returns-in_err-code-clause-read
returns-in_err-code-clause-read g c tells =
    let p = err_from_is_err_and c.from_residual.result c.from_residual.ensures.1 in
    rw (p.1, p.2) (refused_first PeeksCode (Here BeginFault) _ _ _ _ _ no_memory (λ _. no_value) (value_peeked _ _)
    (refused_here (c.in_err-code.ensures.read tells) c.in_err-code.ensures.place))

pub returns-then-is_container-clause-read : goal.returns-then-is_container-clause-read
returns-then-is_container-clause-read g c tells =
    container_refused _ _ _ (c.in_ok-code.ensures.read tells)
    (sym (ap is_container c.kind_of.ensures) ∙ sym c.is_container.ensures ∙ c.if-is_container.true) _ _ c.refuse.ensures.first c.refuse.ensures.place

pub returns-in_err-value-clause-read : goal.returns-in_err-value-clause-read
returns-in_err-value-clause-read g c tells =
    let p = err_from_is_err_and c.from_residual-in_err-value.result c.from_residual-in_err-value.ensures.1 in
    rw (p.1, p.2)
    (value_refused _ _ _ (c.in_ok-code.ensures.read tells)
    (sym (ap is_container c.kind_of.ensures) ∙ sym c.is_container.ensures ∙ c.if-is_container.false) _ _ (c.in_err-value.ensures.read tells))

pub returns-in-Ok-clause-read : goal.returns-in-Ok-clause-read
returns-in-Ok-clause-read g c tells =
    value_read _ _ _ (c.in_ok-code.ensures.read tells) _ _ _ c.in-Ok.ensures (c.in_ok-value.ensures.read tells)

pub returns-in-Err-clause-read : goal.returns-in-Err-clause-read
returns-in-Err-clause-read g c tells =
    absurd
    (other_read _ _ _ (c.in_ok-code.ensures.read tells)
    (sym (ap is_container c.kind_of.ensures) ∙ sym c.is_container.ensures ∙ c.if-is_container.false) _ _ (c.in_ok-value.ensures.read tells)
    c.in-Err.ensures.1)

pub returns-in_err-code-clause-tries : goal.returns-in_err-code-clause-tries
returns-in_err-code-clause-tries g c =
    let p = err_from_is_err_and c.from_residual.result c.from_residual.ensures.1 in
    rw (p.1, p.2)
    (refused_more false true c.args.decoder.now _ _ (taking_some _) c.in_err-code.ensures.tries)

pub returns-in_err-value-clause-tries : goal.returns-in_err-value-clause-tries
returns-in_err-value-clause-tries g c =
    let p = err_from_is_err_and c.from_residual-in_err-value.result c.from_residual-in_err-value.ensures.1 in
    rw (p.1, p.2)
    (refused_behind true true c.args.decoder.now c.peek_code.new.self _ _ (taking_some _) c.in_ok-code.ensures.tries c.in_err-value.ensures.tries)
