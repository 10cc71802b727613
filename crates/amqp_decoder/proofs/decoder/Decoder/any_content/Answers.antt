use Rattle.std.proofs.Common.{rules}
use Rattle.std.proofs.lemmas.Result.{err_from_is_err_and}
use Rattle.amqp_decoder.proofs.ReadPrimitives.{err_map}
use Rattle.amqp_decoder.proofs.SizedTexts.{text_unbegun, text_other, text_narrow, text_wide}
use Rattle.amqp_decoder.proofs.Steps.{answered_so}
use Rattle.amqp_decoder.proofs.decoder.Decoder.any_content.Goals as goal

pub returns-in_err-code-clause-err : goal.returns-in_err-code-clause-err
returns-in_err-code-clause-err g c = λ told.
    let p = err_from_is_err_and c.from_residual.result c.from_residual.ensures.1 in
    rw (p.1, p.2) (text_unbegun _ _ _ _ _ (c.in_err-code.ensures.read told))

pub returns-then-code-narrow-clause-err : goal.returns-then-code-narrow-clause-err
returns-then-code-narrow-clause-err g c =
    λ told. err_map _ _ _ (λ e s. text_narrow _ _ _ _ _ _ (rw c.if-code-narrow.true at (c.in_ok-code.ensures.read told)) s)
    (c.text_data.ensures.err told)

pub returns-then-code-wide-clause-err : goal.returns-then-code-wide-clause-err
returns-then-code-wide-clause-err g c =
    λ told. err_map _ _ _ (λ e s. text_wide _ _ _ _ _ _ (rw c.if-code-wide.true at (c.in_ok-code.ensures.read told)) s)
    (c.text_data-then-code-wide.ensures.err told)

pub returns-else-code-wide-clause-err : goal.returns-else-code-wide-clause-err
returns-else-code-wide-clause-err g c =
    λ told. text_other _ _ _ _ _ _ _ (c.in_ok-code.ensures.read told) (search rules) (search rules) c.refuse_code.ensures.answer
    (answered_so _ _ _ c.refuse_code.ensures.kept)
