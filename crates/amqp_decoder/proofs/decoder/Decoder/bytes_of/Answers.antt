use Rattle.std.proofs.Common.{ap, ◌∙◌, ◌++◌, take}
use Rattle.std.proofs.lemmas.Result.{err_from_is_err_and}
use Rattle.amqp_decoder.proofs.QuickTexts.{bytes_took}
use Rattle.amqp_decoder.proofs.Steps.{stopped_short, stopped_missed}
use Rattle.amqp_decoder.proofs.decoder.Decoder.bytes_of.Goals as goal

pub returns-in_err-lower-clause-err : goal.returns-in_err-lower-clause-err
returns-in_err-lower-clause-err g c = λ told.
    let p = err_from_is_err_and c.from_residual.result c.from_residual.ensures.1 in
    rw (p.1, p.2) (stopped_short _ _ _ _ (c.in_err-lower.ensures.err told))

pub returns-in_err-keep-clause-err : goal.returns-in_err-keep-clause-err
returns-in_err-keep-clause-err g c = λ told.
    let p = err_from_is_err_and c.from_residual-in_err-keep.result c.from_residual-in_err-keep.ensures.1 in
    rw (p.1, p.2) (stopped_missed _ _ _ _ _ c.in_ok-lower.ensures.room c.in_ok-lower.ensures.new (c.in_err-keep.ensures.err told))

pub returns-clause-ok : goal.returns-clause-ok
returns-clause-ok g c = λ told.
    let kept = c.in_ok-keep.ensures.ok told in
    bytes_took _ _ _ _ _ c.in_ok-lower.ensures.room c.in_ok-lower.ensures.new kept.0
    (kept.1 ∙ ap (λ x. x ++ take c.args.len c.lower.new.self.rest) c.new-bytes.ensures.items) kept.2
