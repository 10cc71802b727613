use Rattle.std.proofs.lemmas.Result.{err_from_is_err_and}
use Rattle.amqp_decoder.proofs.SizedTexts.{sized_short, sized_no_room}
use Rattle.amqp_decoder.proofs.decoder.Decoder.text_len.Goals as goal

pub returns-in_err-len-clause-err : goal.returns-in_err-len-clause-err
returns-in_err-len-clause-err g c = λ told.
    let p = err_from_is_err_and c.from_residual.result c.from_residual.ensures.1 in
    rw (p.1, p.2) (sized_short _ _ _ _ (c.in_err-len.ensures.err told))

pub returns-in_err-lower-clause-err : goal.returns-in_err-lower-clause-err
returns-in_err-lower-clause-err g c = λ told.
    let p = err_from_is_err_and c.from_residual-in_err-lower.result c.from_residual-in_err-lower.ensures.1 in
    rw (p.1, p.2) (sized_no_room _ _ _ _ _ _ c.in_ok-len.ensures.fits (c.in_ok-len.ensures.ok told) (c.in_err-lower.ensures.err told))
