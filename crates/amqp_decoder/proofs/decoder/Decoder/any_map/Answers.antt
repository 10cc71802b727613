use Rattle.std.proofs.Common.{rules, refl}
use Rattle.std.proofs.lemmas.Result.{err_from_is_err_and}
use Rattle.amqp_model.specs.Term.{map}
use Rattle.amqp_decoder.proofs.Opening.{open_unbegun, open_other, not_map, reads_open}
use Rattle.amqp_decoder.proofs.Steps.{answered_so}
use Rattle.amqp_decoder.proofs.decoder.Decoder.any_map.Goals as goal

pub returns-in_err-code-clause-read : goal.returns-in_err-code-clause-read
returns-in_err-code-clause-read g c = λ told.
    let p = err_from_is_err_and c.from_residual.result c.from_residual.ensures.1 in
    rw (p.1, p.2) (open_unbegun map _ _ _ (c.in_err-code.ensures.read told))

pub returns-in-193-clause-read : goal.returns-in-193-clause-read
returns-in-193-clause-read g c =
    λ told. reads_open map 0xc1 1 _ _ _ _ (rw c.in-193.is at (c.in_ok-code.ensures.read told)) refl (c.open_map.ensures.ok told)
    (c.open_map.ensures.err told)

pub returns-in-209-clause-read : goal.returns-in-209-clause-read
returns-in-209-clause-read g c =
    λ told. reads_open map 0xd1 4 _ _ _ _ (rw c.in-209.is at (c.in_ok-code.ensures.read told)) refl (c.open_map-in-209.ensures.ok told)
    (c.open_map-in-209.ensures.err told)

pub returns-in_default-clause-read : goal.returns-in_default-clause-read
returns-in_default-clause-read g c = λ told.
    open_other map _ _ _ _ _ (c.in_ok-code.ensures.read told) (not_map c.in_ok-code.code (search rules) (search rules))
    c.refuse_code.ensures.answer (answered_so _ _ _ c.refuse_code.ensures.kept)
