use Rattle.std.proofs.lemmas.Result.{err_from_is_err_and}
use Rattle.amqp_wire.specs.declared.error.Error.TheVariants.{UnknownNumber}
use Rattle.amqp_sums.proofs.RestrictedReads.{restricted_refused, restricted_unknown}
use Rattle.amqp_sums.proofs.restricted.read_number.Goals as goal

pub returns-in_err-number-clause-read : goal.returns-in_err-number-clause-read
returns-in_err-number-clause-read g c tells =
    let p = err_from_is_err_and c.from_residual.result c.from_residual.ensures.1 in
    rw (p.1, p.2) (restricted_refused g.T.Number.Base.base UnknownNumber g.T.RestrictedNumber.numbers _ _ _ (c.in_err-number.ensures.read tells))

pub returns-in-None-clause-read : goal.returns-in-None-clause-read
returns-in-None-clause-read g c tells =
    restricted_unknown g.T.Number.Base.base UnknownNumber g.T.RestrictedNumber.numbers _ _ _ _ _ (c.in_ok-number.ensures.read tells)
    c.in-None.ensures c.refuse_at.ensures.first c.place-place.result c.refuse_at.ensures.place c.place-place.ensures
