use Rattle.std.proofs.lemmas.Result.{err_from_is_err_and}
use Rattle.amqp_decoder.proofs.TopLevel.{peeked, no_section}
use Rattle.amqp_decoder.proofs.decoder.Decoder.peek_section.Goals as goal

pub returns-in_err-check_top-clause-read : goal.returns-in_err-check_top-clause-read
returns-in_err-check_top-clause-read g c = λ told.
    let p = err_from_is_err_and c.from_residual.result c.from_residual.ensures.1 in
    rw (p.1, p.2) (no_section _ _ _ c.in_err-check_top.ensures.read c.in_err-check_top.ensures.place)

pub returns-clause-read : goal.returns-clause-read
returns-clause-read g c =
    λ told. peeked c.section_ahead.result _ _ _ c.in_ok-check_top.ensures.read (c.section_ahead.ensures.looks told)
    (c.section_ahead.ensures.ok told) c.section_ahead.ensures.err
