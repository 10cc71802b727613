use Rattle.std.proofs.Common.{rules, [], ◌∷◌, refl}
use Rattle.std.proofs.lemmas.Result.{err_from_is_err_and}
use Rattle.amqp_model.specs.Term.{boolean}
use Rattle.amqp_lookahead.proofs.KindsOfCodes.{not_three}
use Rattle.amqp_decoder.proofs.ReadPrimitives.{refused_first, short_refused, other_refused, data_value, code_value, bad_refused}
use Rattle.amqp_decoder.proofs.ReadPrimitives.{not_boolean}
use Rattle.amqp_decoder.proofs.Steps.{answered, answered_so}
use Rattle.amqp_decoder.proofs.decoder.Decoder.any_bool.Goals as goal

pub returns-in_err-code-clause-read : goal.returns-in_err-code-clause-read
returns-in_err-code-clause-read g c = λ told.
    let p = err_from_is_err_and c.from_residual.result c.from_residual.ensures.1 in
    rw (p.1, p.2) (refused_first boolean 1 _ _ _ (λ v. refl) (c.in_err-code.ensures.read told))

pub returns-in_err-byte-in-86-clause-read : goal.returns-in_err-byte-in-86-clause-read
returns-in_err-byte-in-86-clause-read g c = λ told.
    let p = err_from_is_err_and c.from_residual-in_err-byte-in-86.result c.from_residual-in_err-byte-in-86.ensures.1 in
    rw (p.1, p.2) (short_refused boolean 1 86 1 _ _ _ _ (λ v. refl) refl (λ l. l) (rw c.in-86.is at (c.in_ok-code.ensures.read told))
    (c.in_err-byte-in-86.ensures.err told))

pub returns-in_default-clause-read : goal.returns-in_default-clause-read
returns-in_default-clause-read g c = λ told.
    other_refused boolean 1 _ _ _ _ _ (λ v. refl) (c.in_ok-code.ensures.read told)
    (not_three 1 _ 65 66 86 refl (search rules) (search rules) (search rules)) c.refuse_code.ensures.answer
    (answered_so _ _ _ c.refuse_code.ensures.kept)

pub returns-in-65-clause-read : goal.returns-in-65-clause-read
returns-in-65-clause-read g c = λ told. code_value boolean 65 _ _ _ (rw c.in-65.is at (c.in_ok-code.ensures.read told)) (refl, refl, tt)

pub returns-in-66-clause-read : goal.returns-in-66-clause-read
returns-in-66-clause-read g c = λ told. code_value boolean 66 _ _ _ (rw c.in-66.is at (c.in_ok-code.ensures.read told)) (refl, refl, tt)

pub returns-in-0-clause-read : goal.returns-in-0-clause-read
returns-in-0-clause-read g c = λ told.
    data_value boolean 86 _ _ (0 ∷ []) _ _ (rw c.in-86.is at (c.in_ok-code.ensures.read told)) (refl, refl, tt)
    (rw c.in-0.is at (c.in_ok-byte-in-86.ensures.ok told))

pub returns-in-1-clause-read : goal.returns-in-1-clause-read
returns-in-1-clause-read g c = λ told.
    data_value boolean 86 _ _ (1 ∷ []) _ _ (rw c.in-86.is at (c.in_ok-code.ensures.read told)) (refl, refl, tt)
    (rw c.in-1.is at (c.in_ok-byte-in-86.ensures.ok told))

pub returns-in_default-2-clause-read : goal.returns-in_default-2-clause-read
returns-in_default-2-clause-read g c = λ told.
    bad_refused boolean 1 86 _ _ (c.in_ok-byte-in-86.field-0 ∷ []) _ _ _ (λ v. refl) refl (rw c.in-86.is at (c.in_ok-code.ensures.read told))
    (c.in_ok-byte-in-86.ensures.ok told) refl
    (λ p d. not_boolean c.in_ok-byte-in-86.field-0 p (search rules) (search rules) d.1) c.stop.ensures.answer
    (answered _ _ _ _ c.stop.ensures.kept c.stop.ensures.answer)
