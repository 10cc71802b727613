use Rattle.std.proofs.Common.{true}
use Rattle.std.proofs.lemmas.Result.{err_from_is_err_and}
use Rattle.amqp_model.specs.Term.{symbol}
use Rattle.amqp_wire.specs.declared.error.Error.{Error}
use Rattle.amqp_lookahead.specs.Kinds.{symbols}
use Rattle.amqp_decoder.specs.State.{State}
use Rattle.amqp_decoder.specs.Primitives.{ReadsValue, Means, PrimitiveFault}
use Rattle.amqp_decoder.specs.Places.{Here, RefusesAt}
use Rattle.amqp_codec.specs.laws.Refusal.{refused_first}
use Rattle.amqp_sums.proofs.RestrictedReads.{symbol_refused}
use Rattle.amqp_errors.specs.Conditions.{condition_texts, condition_type}
use Rattle.amqp_errors.proofs.error_condition.ErrorConditionDeserializeTerm.read_value.Goals as goal

-- where no symbol is read, no condition is
condition_refused : (st : State) (e : Error) (new : State)
    → RefusesAt true (ReadsValue (Means symbol)) (Here (PrimitiveFault symbols)) st e new
    → RefusesAt true (ReadsValue condition_type.means) (Here (PrimitiveFault symbols)) st e new
condition_refused st e new =
    refused_first (ReadsValue (Means symbol)) (Here (PrimitiveFault symbols)) (ReadsValue condition_type.means) (Here (PrimitiveFault symbols))
    st e new (λ t. t) (λ x f. f)
    (λ none v b h. none (condition_texts v) b
    (record { bytes = h.bytes; term = h.term; stands = h.stands; moved = h.moved; meant = h.meant.0.0 }))

pub returns-in_err-symbol-clause-read : goal.returns-in_err-symbol-clause-read
returns-in_err-symbol-clause-read g c tells =
    let p = err_from_is_err_and c.from_residual.result c.from_residual.ensures.1 in
    rw (p.1, p.2) (condition_refused _ _ _ (symbol_refused _ _ _ (c.in_err-symbol.ensures.read tells) c.in_err-symbol.ensures.place))
