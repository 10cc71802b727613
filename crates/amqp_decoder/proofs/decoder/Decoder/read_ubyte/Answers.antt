use Rattle.std.proofs.Common.{Some, refl, ap, sym}
use Rattle.std.proofs.lemmas.Result.{err_from_is_err_and}
use Rattle.amqp_model.specs.Term.{ubyte}
use Rattle.amqp_decoder.proofs.ReadPrimitives.{fixed_refused, fixed_value}
use Rattle.amqp_decoder.proofs.decoder.Decoder.read_ubyte.Goals as goal

pub returns-in_err-fixed-clause-read : goal.returns-in_err-fixed-clause-read
returns-in_err-fixed-clause-read g c = λ told.
    let p = err_from_is_err_and c.from_residual.result c.from_residual.ensures.1 in
    rw (p.1, p.2) (fixed_refused ubyte 2 0x50 1 _ _ _ (λ v. refl) refl refl (λ m l. l) (c.in_err-fixed.ensures.err told))

pub returns-clause-read : goal.returns-clause-read
returns-clause-read g c = λ told.
    let f = c.in_ok-fixed.ensures.ok told in
    fixed_value ubyte 0x50 1 _ _ _ _ (f.width, ap (λ n. Some (ubyte n)) (sym c.from_be_bytes.ensures), tt) f
