use Rattle.std.proofs.Common.{arith}
use Rattle.std.proofs.lemmas.Result.{err_from_is_err_and}
use Rattle.amqp_decoder.proofs.Opening.{no_header_size, header_impossible, no_header_count, no_header_content, header_of_none, possible_at}
use Rattle.amqp_decoder.proofs.Opening.{possible_none}
use Rattle.amqp_decoder.proofs.decoder.Decoder.header.Goals as goal

pub returns-in_err-size-clause-err : goal.returns-in_err-size-clause-err
returns-in_err-size-clause-err g c = λ told.
    let p = err_from_is_err_and c.from_residual.result c.from_residual.ensures.1 in
    rw (p.1, p.2) (no_header_size _ _ _ _ _ (c.in_err-size.ensures.err told))

pub returns-then-not-is_possible-clause-err : goal.returns-then-not-is_possible-clause-err
returns-then-not-is_possible-clause-err g c = λ told.
    header_impossible _ _ _ c.is_possible.result _ _ _ _ c.if-not-is_possible.true
    (λ p. c.is_possible.ensures.1 (rw c.width-width.ensures p)) c.in_ok-size.ensures.fits (c.in_ok-size.ensures.ok told)
    (c.refuse_size.ensures.refused told)

pub returns-in_err-count-clause-err : goal.returns-in_err-count-clause-err
returns-in_err-count-clause-err g c = λ told.
    let p = err_from_is_err_and c.from_residual-in_err-count.result c.from_residual-in_err-count.ensures.1 in
    let able = possible_at _ _ _ _ _ c.if-not-is_possible.false c.is_possible.ensures.0 c.width-width.ensures in
    rw (p.1, p.2) (no_header_count _ _ _ _ _ _ _ c.in_ok-size.ensures.fits (c.in_ok-size.ensures.ok told) able
    (c.in_err-count.ensures.err told))

pub returns-then-count-gt0-clause-err : goal.returns-then-count-gt0-clause-err
returns-then-count-gt0-clause-err g c = λ told.
    let able = possible_at _ _ _ _ _ c.if-not-is_possible.false c.is_possible.ensures.0 c.width-width.ensures in
    let none = possible_none _ _ _ able (omega (arith, c.if-size-width.false, c.width-width.ensures)) in
    no_header_content _ _ _ _ _ _ _ _ _ none.1 c.if-count-gt0.true c.in_ok-count.ensures.fits (c.in_ok-size.ensures.ok told)
    (c.in_ok-count.ensures.ok told) (c.refuse_size-then-count-gt0.ensures.refused told)

pub returns-clause-ok : goal.returns-clause-ok
returns-clause-ok g c = λ told.
    let able = possible_at _ _ _ _ _ c.if-not-is_possible.false c.is_possible.ensures.0 c.width-width.ensures in
    let none = possible_none _ _ _ able (omega (arith, c.if-size-width.false, c.width-width.ensures)) in
    header_of_none _ _ _ _ _ _ _ c.in_ok-size.ensures.fits c.in_ok-count.ensures.fits none.0 none.1 (omega (arith, c.if-count-gt0.false))
    (c.in_ok-size.ensures.ok told) (c.in_ok-count.ensures.ok told)
