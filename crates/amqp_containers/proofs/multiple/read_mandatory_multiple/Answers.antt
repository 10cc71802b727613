use Rattle.std.proofs.lemmas.Result.{err_from_is_err_and}
use Rattle.amqp_containers.proofs.MultipleReads.{mandatory_refused, none_refused}
use Rattle.amqp_containers.proofs.multiple.read_mandatory_multiple.Goals as goal

pub returns-in_err-items-clause-read : goal.returns-in_err-items-clause-read
returns-in_err-items-clause-read g c tells =
    let p = err_from_is_err_and c.from_residual.result c.from_residual.ensures.1 in
    rw (p.1, p.2) (mandatory_refused g.T.DeserializeTerm.term _ _ _ (c.in_err-items.ensures.read tells))

pub returns-in-None-clause-read : goal.returns-in-None-clause-read
returns-in-None-clause-read g c tells =
    none_refused g.T.DeserializeTerm.term _ _ _ _ _ c.in-None.is c.refuse_at.ensures.first c.place-start.result c.refuse_at.ensures.place
    c.place-start.ensures
    (c.in_ok-items.ensures.read tells)
