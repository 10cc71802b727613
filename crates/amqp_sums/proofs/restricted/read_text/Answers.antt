use Rattle.std.proofs.Common.{subst}
use Rattle.std.proofs.lemmas.Result.{err_from_is_err_and}
use Rattle.amqp_wire.specs.declared.error.Error.TheVariants.{UnknownText}
use Rattle.amqp_codec.specs.PrimitiveTypes.{symbol_base}
use Rattle.amqp_sums.specs.Restricted.{IsUnknown}
use Rattle.amqp_sums.proofs.RestrictedReads.{restricted_refused, restricted_unknown, symbol_read, symbol_refused}
use Rattle.amqp_sums.proofs.restricted.read_text.Goals as goal

pub returns-in_err-symbol-clause-read : goal.returns-in_err-symbol-clause-read
returns-in_err-symbol-clause-read g c tells =
    let p = err_from_is_err_and c.from_residual.result c.from_residual.ensures.1 in
    let none = symbol_refused _ _ _ (c.in_err-symbol.ensures.read tells) c.in_err-symbol.ensures.place in
    rw (p.1, p.2) (restricted_refused symbol_base UnknownText g.T.RestrictedText.texts _ _ _ none)

pub returns-clause-read : goal.returns-clause-read
returns-clause-read g c tells =
    let unknown = subst (IsUnknown g.T.RestrictedText.texts) c.as_str.ensures c.in-None.ensures in
    restricted_unknown symbol_base UnknownText g.T.RestrictedText.texts _ _ _ _ _ (symbol_read _ _ _ (c.in_ok-symbol.ensures.read tells))
    unknown c.refuse_at.ensures.first c.place-place.result c.refuse_at.ensures.place c.place-place.ensures
