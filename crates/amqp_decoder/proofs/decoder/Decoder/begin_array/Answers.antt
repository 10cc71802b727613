use Rattle.std.proofs.Common.{rules, refl}
use Rattle.std.proofs.lemmas.Result.{err_from_is_err_and}
use Rattle.amqp_decoder.proofs.Opening.{not_array}
use Rattle.amqp_decoder.proofs.OpenedArrays.{array_unbegun, array_other, reads_array}
use Rattle.amqp_decoder.proofs.Steps.{answered_so}
use Rattle.amqp_decoder.proofs.decoder.Decoder.begin_array.Goals as goal

pub returns-in_err-code-clause-opened : goal.returns-in_err-code-clause-opened
returns-in_err-code-clause-opened g c = λ told.
    let p = err_from_is_err_and c.from_residual.result c.from_residual.ensures.1 in
    rw (p.1, p.2) (array_unbegun _ _ _ (c.in_err-code.ensures.read told) c.in_err-code.ensures.place)

pub returns-in-224-clause-opened : goal.returns-in-224-clause-opened
returns-in-224-clause-opened g c =
    λ told. reads_array 0xe0 1 _ _ _ c.start-start.result _ (rw c.in-224.is at (c.in_ok-code.ensures.read told)) refl c.start-start.ensures
    (c.open_array.ensures.ok told)
    (c.open_array.ensures.err told)

pub returns-in-240-clause-opened : goal.returns-in-240-clause-opened
returns-in-240-clause-opened g c =
    λ told. reads_array 0xf0 4 _ _ _ c.start-start.result _ (rw c.in-240.is at (c.in_ok-code.ensures.read told)) refl c.start-start.ensures
    (c.open_array-in-240.ensures.ok told)
    (c.open_array-in-240.ensures.err told)

pub returns-in_default-clause-opened : goal.returns-in_default-clause-opened
returns-in_default-clause-opened g c = λ told.
    array_other _ _ _ _ c.start-start.result _ (c.in_ok-code.ensures.read told) (not_array c.in_ok-code.code (search rules) (search rules))
    c.refuse_code_from.ensures.answer (answered_so _ _ _ c.refuse_code_from.ensures.kept) c.refuse_code_from.ensures.place c.start-start.ensures
