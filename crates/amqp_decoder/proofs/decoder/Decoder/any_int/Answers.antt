use Rattle.std.proofs.Common.{rules, Some, refl, ap, sym, ◌∙◌}
use Rattle.std.proofs.lemmas.Result.{err_from_is_err_and}
use Rattle.std.proofs.lemmas.Int.{to_z-of_z}
use Rattle.std.specs.Int.{w8, w32}
use Rattle.amqp_model.specs.Term.{int}
use Rattle.amqp_lookahead.proofs.KindsOfCodes.{not_two}
use Rattle.amqp_decoder.proofs.ReadPrimitives.{refused_first, short_refused, other_refused, data_value}
use Rattle.amqp_decoder.proofs.Steps.{answered_so}
use Rattle.amqp_decoder.proofs.decoder.Decoder.any_int.Goals as goal

pub returns-in_err-code-clause-read : goal.returns-in_err-code-clause-read
returns-in_err-code-clause-read g c = λ told.
    let p = err_from_is_err_and c.from_residual.result c.from_residual.ensures.1 in
    rw (p.1, p.2) (refused_first int 8 _ _ _ (λ v. refl) (c.in_err-code.ensures.read told))

pub returns-in_err-take-in-84-clause-read : goal.returns-in_err-take-in-84-clause-read
returns-in_err-take-in-84-clause-read g c = λ told.
    let p = err_from_is_err_and c.from_residual-in_err-take-in-84.result c.from_residual-in_err-take-in-84.ensures.1 in
    rw (p.1, p.2) (short_refused int 8 84 1 _ _ _ _ (λ v. refl) refl (λ l. l) (rw c.in-84.is at (c.in_ok-code.ensures.read told))
    (c.in_err-take-in-84.ensures.err told))

pub returns-in_err-take-in-113-clause-read : goal.returns-in_err-take-in-113-clause-read
returns-in_err-take-in-113-clause-read g c = λ told.
    let p = err_from_is_err_and c.from_residual-in_err-take-in-113.result c.from_residual-in_err-take-in-113.ensures.1 in
    rw (p.1, p.2) (short_refused int 8 113 4 _ _ _ _ (λ v. refl) refl (λ l. l) (rw c.in-113.is at (c.in_ok-code.ensures.read told))
    (c.in_err-take-in-113.ensures.err told))

pub returns-in_default-clause-read : goal.returns-in_default-clause-read
returns-in_default-clause-read g c = λ told.
    other_refused int 8 _ _ _ _ _ (λ v. refl) (c.in_ok-code.ensures.read told) (not_two 8 _ 84 113 refl (search rules) (search rules))
    c.refuse_code.ensures.answer (answered_so _ _ _ c.refuse_code.ensures.kept)

pub returns-in_ok-take-in-84-clause-read : goal.returns-in_ok-take-in-84-clause-read
returns-in_ok-take-in-84-clause-read g c = λ told.
    let same = to_z-of_z w32 c.from.result (search rules) ∙ c.from.ensures ∙ to_z-of_z w8 c.from_be_bytes.result (search rules)
    ∙ c.from_be_bytes.ensures in
    data_value int 84 _ _ c.in_ok-take-in-84.field-0 _ _ (rw c.in-84.is at (c.in_ok-code.ensures.read told))
    (search rules, ap (λ n. Some (int n)) (sym same), tt) (c.in_ok-take-in-84.ensures.ok told)

pub returns-in_ok-take-in-113-clause-read : goal.returns-in_ok-take-in-113-clause-read
returns-in_ok-take-in-113-clause-read g c = λ told.
    let same = to_z-of_z w32 c.from_be_bytes-in-113.result (search rules) ∙ c.from_be_bytes-in-113.ensures in
    data_value int 113 _ _ c.in_ok-take-in-113.field-0 _ _ (rw c.in-113.is at (c.in_ok-code.ensures.read told))
    (search rules, ap (λ n. Some (int n)) (sym same), tt) (c.in_ok-take-in-113.ensures.ok told)
