use Rattle.std.proofs.lemmas.Result.{err_from_is_err_and}
use Rattle.amqp_decoder.specs.Steps.{Lacks}
use Rattle.amqp_decoder.proofs.Places.{stops_here}
use Rattle.amqp_decoder.proofs.decoder.Decoder.keep_code.Goals as goal

pub returns-in_err-code-clause-err : goal.returns-in_err-code-clause-err
returns-in_err-code-clause-err g c = λ told.
    let p = err_from_is_err_and c.from_residual.result c.from_residual.ensures.1 in
    rw (p.1, p.2) (stops_here (Lacks 1) {st = c.args.self.now} (c.in_err-code.ensures.err told) c.in_err-code.ensures.place)
