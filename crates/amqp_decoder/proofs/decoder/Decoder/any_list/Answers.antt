use Rattle.std.proofs.Common.{rules, refl}
use Rattle.std.proofs.lemmas.Result.{err_from_is_err_and}
use Rattle.amqp_model.specs.Term.{list}
use Rattle.amqp_decoder.proofs.Opening.{open_unbegun, open_other, not_list, reads_open, bare_reads}
use Rattle.amqp_decoder.proofs.Steps.{answered_so}
use Rattle.amqp_decoder.proofs.decoder.Decoder.any_list.Goals as goal

pub returns-in_err-code-clause-read : goal.returns-in_err-code-clause-read
returns-in_err-code-clause-read g c = λ told.
    let p = err_from_is_err_and c.from_residual.result c.from_residual.ensures.1 in
    rw (p.1, p.2) (open_unbegun list _ _ _ (c.in_err-code.ensures.read told))

pub returns-in-69-clause-read : goal.returns-in-69-clause-read
returns-in-69-clause-read g c =
    λ told. bare_reads 0x45 _ _ _ _ (rw c.in-69.is at (c.in_ok-code.ensures.read told)) refl c.open.ensures.ok (c.open.ensures.err told)

pub returns-in-192-clause-read : goal.returns-in-192-clause-read
returns-in-192-clause-read g c =
    λ told. reads_open list 0xc0 1 _ _ _ _ (rw c.in-192.is at (c.in_ok-code.ensures.read told)) refl (c.open_list.ensures.ok told)
    (c.open_list.ensures.err told)

pub returns-in-208-clause-read : goal.returns-in-208-clause-read
returns-in-208-clause-read g c =
    λ told. reads_open list 0xd0 4 _ _ _ _ (rw c.in-208.is at (c.in_ok-code.ensures.read told)) refl (c.open_list-in-208.ensures.ok told)
    (c.open_list-in-208.ensures.err told)

pub returns-in_default-clause-read : goal.returns-in_default-clause-read
returns-in_default-clause-read g c = λ told.
    open_other list _ _ _ _ _ (c.in_ok-code.ensures.read told) (not_list c.in_ok-code.code (search rules) (search rules) (search rules))
    c.refuse_code.ensures.answer (answered_so _ _ _ c.refuse_code.ensures.kept)
