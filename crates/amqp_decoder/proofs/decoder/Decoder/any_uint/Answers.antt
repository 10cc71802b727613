use Rattle.std.proofs.Common.{rules, Some, [], ◌∷◌, refl, ap, sym}
use Rattle.std.proofs.lemmas.Result.{err_from_is_err_and}
use Rattle.amqp_model.specs.Term.{uint}
use Rattle.amqp_lookahead.proofs.KindsOfCodes.{not_three}
use Rattle.amqp_decoder.proofs.ReadPrimitives.{refused_first, short_refused, other_refused, data_value, code_value}
use Rattle.amqp_decoder.proofs.Steps.{answered_so}
use Rattle.amqp_decoder.proofs.decoder.Decoder.any_uint.Goals as goal

pub returns-in_err-code-clause-read : goal.returns-in_err-code-clause-read
returns-in_err-code-clause-read g c = λ told.
    let p = err_from_is_err_and c.from_residual.result c.from_residual.ensures.1 in
    rw (p.1, p.2) (refused_first uint 4 _ _ _ (λ v. refl) (c.in_err-code.ensures.read told))

pub returns-in_err-byte-in-82-clause-read : goal.returns-in_err-byte-in-82-clause-read
returns-in_err-byte-in-82-clause-read g c = λ told.
    let p = err_from_is_err_and c.from_residual-in_err-byte-in-82.result c.from_residual-in_err-byte-in-82.ensures.1 in
    rw (p.1, p.2) (short_refused uint 4 82 1 _ _ _ _ (λ v. refl) refl (λ l. l) (rw c.in-82.is at (c.in_ok-code.ensures.read told))
    (c.in_err-byte-in-82.ensures.err told))

pub returns-in_err-take-in-112-clause-read : goal.returns-in_err-take-in-112-clause-read
returns-in_err-take-in-112-clause-read g c = λ told.
    let p = err_from_is_err_and c.from_residual-in_err-take-in-112.result c.from_residual-in_err-take-in-112.ensures.1 in
    rw (p.1, p.2) (short_refused uint 4 112 4 _ _ _ _ (λ v. refl) refl (λ l. l) (rw c.in-112.is at (c.in_ok-code.ensures.read told))
    (c.in_err-take-in-112.ensures.err told))

pub returns-in_default-clause-read : goal.returns-in_default-clause-read
returns-in_default-clause-read g c = λ told.
    other_refused uint 4 _ _ _ _ _ (λ v. refl) (c.in_ok-code.ensures.read told)
    (not_three 4 _ 67 82 112 refl (search rules) (search rules) (search rules)) c.refuse_code.ensures.answer
    (answered_so _ _ _ c.refuse_code.ensures.kept)

pub returns-in-67-clause-read : goal.returns-in-67-clause-read
returns-in-67-clause-read g c = λ told. code_value uint 67 _ _ _ (rw c.in-67.is at (c.in_ok-code.ensures.read told)) (refl, refl, tt)

pub returns-in_ok-byte-in-82-clause-read : goal.returns-in_ok-byte-in-82-clause-read
returns-in_ok-byte-in-82-clause-read g c = λ told.
    data_value uint 82 _ _ (c.in_ok-byte-in-82.field-0 ∷ []) _ _ (rw c.in-82.is at (c.in_ok-code.ensures.read told))
    (refl, ap (λ n. Some (uint n)) (sym c.from.ensures), tt) (c.in_ok-byte-in-82.ensures.ok told)

pub returns-in_ok-take-in-112-clause-read : goal.returns-in_ok-take-in-112-clause-read
returns-in_ok-take-in-112-clause-read g c = λ told.
    data_value uint 112 _ _ c.in_ok-take-in-112.field-0 _ _ (rw c.in-112.is at (c.in_ok-code.ensures.read told))
    (search rules, ap (λ n. Some (uint n)) (sym c.from_be_bytes.ensures), tt) (c.in_ok-take-in-112.ensures.ok told)
