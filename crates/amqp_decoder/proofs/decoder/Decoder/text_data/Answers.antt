use Rattle.std.proofs.Common.{true}
use Rattle.std.proofs.lemmas.Result.{err_from_is_err_and}
use Rattle.amqp_decoder.proofs.SizedTexts.{sized_in, sized_cut}
use Rattle.amqp_decoder.proofs.decoder.Decoder.text_data.Goals as goal

pub returns-in_err-len-clause-err : goal.returns-in_err-len-clause-err
returns-in_err-len-clause-err g c = λ told.
    let p = err_from_is_err_and c.from_residual.result c.from_residual.ensures.1 in
    rw (p.1, p.2) (sized_in true _ _ _ _ (c.in_err-len.ensures.err told))

pub returns-in_err-keep-clause-err : goal.returns-in_err-keep-clause-err
returns-in_err-keep-clause-err g c = λ told.
    let p = err_from_is_err_and c.from_residual-in_err-keep.result c.from_residual-in_err-keep.ensures.1 in
    rw (p.1, p.2) (sized_cut _ _ _ _ _ _ (c.in_ok-len.ensures.ok told) (c.in_err-keep.ensures.err told))
