use Rattle.std.proofs.Common.{refl}
use Rattle.std.proofs.lemmas.Result.{err_from_is_err_and}
use Rattle.amqp_model.specs.Term.{null}
use Rattle.amqp_decoder.proofs.ReadPrimitives.{fixed_refused, fixed_value}
use Rattle.amqp_decoder.proofs.decoder.Decoder.read_any_null.Goals as goal

pub returns-in_err-_data-clause-read : goal.returns-in_err-_data-clause-read
returns-in_err-_data-clause-read g c = λ told.
    let p = err_from_is_err_and c.from_residual.result c.from_residual.ensures.1 in
    rw (p.1, p.2) (fixed_refused (λ _. null) 0 0x40 0 _ _ _ (λ v. refl) refl refl (λ m l. l) (c.in_err-_data.ensures.err told))

pub returns-clause-read : goal.returns-clause-read
returns-clause-read g c = λ told.
    let f = c.in_ok-_data.ensures.ok told in
    fixed_value (λ _. null) 0x40 0 _ _ _ _ (f.width, refl, tt) f
