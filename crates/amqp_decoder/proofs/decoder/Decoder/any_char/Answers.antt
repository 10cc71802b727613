use Rattle.std.proofs.Common.{Some, refl, ap, sym, ◌∙◌}
use Rattle.std.proofs.lemmas.Result.{err_from_is_err_and}
use Rattle.amqp_model.specs.Term.{char}
use Rattle.amqp_decoder.proofs.ReadPrimitives.{not_char, bad_refused, fixed_refused, fixed_value}
use Rattle.amqp_decoder.proofs.Steps.{answered}
use Rattle.amqp_decoder.proofs.decoder.Decoder.any_char.Goals as goal

pub returns-in_err-fixed-clause-read : goal.returns-in_err-fixed-clause-read
returns-in_err-fixed-clause-read g c = λ told.
    let p = err_from_is_err_and c.from_residual.result c.from_residual.ensures.1 in
    rw (p.1, p.2) (fixed_refused char 13 0x73 4 _ _ _ (λ v. refl) refl refl (λ m l. l) (c.in_err-fixed.ensures.err told))

pub returns-in-Some-clause-read : goal.returns-in-Some-clause-read
returns-in-Some-clause-read g c = λ told.
    let f = c.in_ok-fixed.ensures.ok told in
    let v = c.in-Some.ensures.value in
    fixed_value char 0x73 4 _ _ _ _ (f.width, ap (λ n. Some (char n)) (sym (v.1 ∙ c.from_be_bytes-number.ensures)), rw v.1 v.0) f

pub returns-in-None-clause-read : goal.returns-in-None-clause-read
returns-in-None-clause-read g c = λ told.
    let f = c.in_ok-fixed.ensures.ok told in
    bad_refused char 13 0x73 _ _ c.in_ok-fixed.field-0 _ _ _ (λ v. refl) refl f.begun f.took f.width
    (λ p d. not_char _ p (rw c.from_be_bytes-number.ensures at c.in-None.ensures.value) d.1 d.2)
    c.stop.ensures.answer (answered _ _ _ _ c.stop.ensures.kept c.stop.ensures.answer)
