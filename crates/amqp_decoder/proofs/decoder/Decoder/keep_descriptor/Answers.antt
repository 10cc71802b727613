use Rattle.std.proofs.Common.{rules}
use Rattle.std.proofs.lemmas.Result.{err_from_is_err_and}
use Rattle.amqp_decoder.proofs.Constructed.{stopped_descriptor}
use Rattle.amqp_decoder.proofs.decoder.Decoder.keep_descriptor.Goals as goal

pub returns-in_err-descriptor-clause-err : goal.returns-in_err-descriptor-clause-err
returns-in_err-descriptor-clause-err g c = λ told none.
    let p = err_from_is_err_and c.from_residual.result c.from_residual.ensures.1 in
    rw (p.1, p.2) (stopped_descriptor _ _ _ _ (search rules) (c.in_err-descriptor.ensures.err told none) c.in_err-descriptor.ensures.place)
