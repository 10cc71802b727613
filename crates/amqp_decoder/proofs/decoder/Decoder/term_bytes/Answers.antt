use Rattle.std.proofs.lemmas.Result.{err_from_is_err_and}
use Rattle.amqp_decoder.proofs.KeptTerms.{known_code, term_kept, no_constructor_kept, no_data_kept, began_before, no_term_kept}
use Rattle.amqp_decoder.proofs.decoder.Decoder.term_bytes.Goals as goal

pub returns-in_err-code-clause-err : goal.returns-in_err-code-clause-err
returns-in_err-code-clause-err g c = λ told.
    let p = err_from_is_err_and c.from_residual.result c.from_residual.ensures.1 in
    rw (p.1, p.2) (no_constructor_kept _ _ _ (c.in_err-code.ensures.err told))

pub returns-in_err-keep_data-clause-err : goal.returns-in_err-keep_data-clause-err
returns-in_err-keep_data-clause-err g c = λ told.
    let p = err_from_is_err_and c.from_residual-in_err-keep_data.result c.from_residual-in_err-keep_data.ensures.1 in
    let constructor = c.in_ok-code.ensures.ok told in
    rw (p.1, p.2) (no_data_kept c.in_ok-code.code _ _ _ _ _ c.place-start.result _ constructor
    (c.in_err-keep_data.ensures.err told (known_code c.in_ok-code.code _ constructor.is)) c.in_err-keep_data.ensures.place
    c.place-start.ensures)

pub returns-in_err-check_term-clause-err : goal.returns-in_err-check_term-clause-err
returns-in_err-check_term-clause-err g c = λ told.
    let p = err_from_is_err_and c.from_residual-in_err-check_term.result c.from_residual-in_err-check_term.ensures.1 in
    let constructor = c.in_ok-code.ensures.ok told in
    let data_ = c.in_ok-keep_data.ensures.ok told (known_code c.in_ok-code.code _ constructor.is) in
    rw (p.1, p.2) (no_term_kept c.in_ok-code.code _ _ _ _ _ _ _ _ c.new-bytes.ensures.items constructor data_
    ((rw c.as_slice.ensures.value at (c.in_err-check_term.ensures.err told))
    (began_before c.in_ok-code.code c.place-start.result _ _ _ _ _ _ c.new-bytes.ensures.items constructor data_ c.place-start.ensures)))

pub returns-clause-ok : goal.returns-clause-ok
returns-clause-ok g c = λ told.
    let constructor = c.in_ok-code.ensures.ok told in
    let data_ = c.in_ok-keep_data.ensures.ok told (known_code c.in_ok-code.code _ constructor.is) in
    let found = c.in_ok-check_term.ensures.ok in
    term_kept c.in_ok-code.code _ _ _ _ _ _ _ _ c.new-bytes.ensures.items constructor data_ (rw c.as_slice.ensures.value at found.1) found.2
