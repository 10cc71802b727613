use Rattle.std.proofs.Common.{refl, ap, sym, subst, string_bytes}
use Rattle.std.proofs.lemmas.Result.{err_from_is_err_and}
use Rattle.amqp_model.specs.Term.{string}
use Rattle.std.proofs.lemmas.Str.{IsUtf8-string_bytes}
use Rattle.std.proofs.Common.{String, Vec, Global, ℕ}
use Rattle.amqp_decoder.specs.Primitives.{ReadsText}
use Rattle.amqp_decoder.proofs.SizedTexts.{text_value, text_refused, text_bad}
use Rattle.amqp_decoder.proofs.Steps.{answered}
use Rattle.amqp_decoder.proofs.decoder.Decoder.any_string.Goals as goal

pub returns-in_err-text-clause-read : goal.returns-in_err-text-clause-read
returns-in_err-text-clause-read g c = λ told.
    let p = err_from_is_err_and c.from_residual.result c.from_residual.ensures.1 in
    rw (p.1, p.2) (text_refused (λ (v : String Global). string_bytes v) 17 0xa1 0xb1 string _ _ _
    (record { short_code = refl; long_code = refl; kind = λ s. refl; codes = refl }) (c.in_err-text.ensures.err told))

pub returns-in-Ok-clause-read : goal.returns-in-Ok-clause-read
returns-in-Ok-clause-read g c = λ told.
    let same = ap (λ (v : Vec ℕ Global). v.items) (sym c.in-Ok.ensures.ok) in
    text_value (λ (v : String Global). string_bytes v) 17 0xa1 0xb1 string _ _ _
    (record { short_code = refl; long_code = refl; kind = λ s. refl; codes = refl }) (IsUtf8-string_bytes c.in-Ok.text)
    (subst (λ s. ReadsText 0xa1 0xb1 c.args.self.now s c.content.new.self) same (c.in_ok-text.ensures.ok told))

pub returns-clause-read : goal.returns-clause-read
returns-clause-read g c = λ told.
    text_bad (λ (v : String Global). string_bytes v) 17 0xa1 0xb1 string _ _ _ _ _
    (record { short_code = refl; long_code = refl; kind = λ s. refl; codes = refl }) (λ h. let x = c.in-Err.ensures.succeeds h in
    absurd (cc)) (c.in_ok-text.ensures.ok told) c.stop.ensures.answer
    (answered _ _ _ _ c.stop.ensures.kept c.stop.ensures.answer)
