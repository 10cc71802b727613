use Rattle.std.proofs.Common.{refl, string_bytes}
use Rattle.std.proofs.lemmas.Result.{err_from_is_err_and}
use Rattle.amqp_model.specs.Term.{symbol}
use Rattle.amqp_wire.specs.declared.symbol.Symbol.{Symbol}
use Rattle.amqp_decoder.proofs.SizedTexts.{text_refused, checked_reads}
use Rattle.amqp_decoder.proofs.decoder.Decoder.any_symbol.Goals as goal

pub returns-in_err-text-clause-read : goal.returns-in_err-text-clause-read
returns-in_err-text-clause-read g c = λ told.
    let p = err_from_is_err_and c.from_residual.result c.from_residual.ensures.1 in
    rw (p.1, p.2) (text_refused (λ (v : Symbol). string_bytes v.0) 18 0xa3 0xb3 symbol _ _ _
    (record { short_code = refl; long_code = refl; kind = λ s. refl; codes = refl }) (c.in_err-text.ensures.err told))

pub returns-clause-read : goal.returns-clause-read
returns-clause-read g c =
    λ told. checked_reads (λ (v : Symbol). string_bytes v.0) 18 0xa3 0xb3 symbol _ _ _ _ c.ascii.result
    (record { short_code = refl; long_code = refl; kind = λ s. refl; codes = refl }) (c.in_ok-text.ensures.ok told)
    c.ascii.ensures.ok c.ascii.ensures.err
