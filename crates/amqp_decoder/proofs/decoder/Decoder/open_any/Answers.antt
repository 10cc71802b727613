use Rattle.std.proofs.lemmas.Result.{err_from_is_err_and}
use Rattle.amqp_decoder.proofs.OpenedArrays.{stopped_header, stopped_open}
use Rattle.amqp_decoder.proofs.decoder.Decoder.open_any.Goals as goal

pub returns-in_err-count-clause-err : goal.returns-in_err-count-clause-err
returns-in_err-count-clause-err g c = λ told.
    let p = err_from_is_err_and c.from_residual.result c.from_residual.ensures.1 in
    rw (p.1, p.2) (stopped_header _ _ _ _ (c.in_err-count.ensures.err told))

pub returns-in_err-open_items-clause-err : goal.returns-in_err-open_items-clause-err
returns-in_err-open_items-clause-err g c = λ told.
    let p = err_from_is_err_and c.from_residual-in_err-open_items.result c.from_residual-in_err-open_items.ensures.1 in
    rw (p.1, p.2) (stopped_open _ _ _ _ _ _ _ (c.in_ok-count.ensures.ok told) (c.in_err-open_items.ensures.err told))

pub returns-clause-ok : goal.returns-clause-ok
returns-clause-ok g c = λ told.
    let opened = c.in_ok-open_items.ensures.ok in
    record { mid = _; header = c.in_ok-count.ensures.ok told; room = opened.0; few = opened.1; entered = opened.2 }
