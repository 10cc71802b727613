use Rattle.std.proofs.lemmas.Result.{err_from_is_err_and}
use Rattle.amqp_codec.specs.Wrappers.{in_rc}
use Rattle.amqp_codec.proofs.HeldReads.{held_refused}
use Rattle.amqp_codec.proofs.containers.RcDeserializeTerm.read_value.Goals as goal

pub returns-in_err-value-clause-read : goal.returns-in_err-value-clause-read
returns-in_err-value-clause-read g c tells =
    let p = err_from_is_err_and c.from_residual.result c.from_residual.ensures.1 in
    rw (p.1, p.2) (held_refused in_rc g.T.DeserializeTerm.term _ _ _ (c.in_err-value.ensures.read tells))
