use Rattle.std.proofs.lemmas.Result.{err_from_is_err_and}
use Rattle.amqp_c.proofs.Requests.{refused}
use Rattle.amqp_c.proofs.rewriting.canonical_into.Goals as goal

pub returns-in_err-request-clause-refused : goal.returns-in_err-request-clause-refused
returns-in_err-request-clause-refused c =
    let p = err_from_is_err_and c.from_residual.result c.from_residual.ensures.1 in
    rw (p.1, p.2) (refused _ _ _ _ c.in_err-request.ensures.refused)

pub returns-in_err-request-clause-within : goal.returns-in_err-request-clause-within
returns-in_err-request-clause-within c =
    let p = err_from_is_err_and c.from_residual.result c.from_residual.ensures.1 in
    rw (p.1, p.2) (c.in_err-request.ensures.within c.args.input.now)
