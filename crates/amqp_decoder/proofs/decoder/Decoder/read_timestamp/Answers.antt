use Rattle.std.proofs.Common.{rules, Some, refl, ap, sym, ◌∙◌}
use Rattle.std.proofs.lemmas.Result.{err_from_is_err_and}
use Rattle.amqp_model.specs.Term.{timestamp}
use Rattle.amqp_decoder.proofs.ReadPrimitives.{fixed_refused, fixed_value}
use Rattle.std.specs.Int.{w64}
use Rattle.std.proofs.lemmas.Int.{to_z-of_z}
use Rattle.amqp_decoder.proofs.decoder.Decoder.read_timestamp.Goals as goal

pub returns-in_err-fixed-clause-read : goal.returns-in_err-fixed-clause-read
returns-in_err-fixed-clause-read g c = λ told.
    let p = err_from_is_err_and c.from_residual.result c.from_residual.ensures.1 in
    rw (p.1, p.2) (fixed_refused timestamp 14 0x83 8 _ _ _ (λ v. refl) refl refl (λ m l. l) (c.in_err-fixed.ensures.err told))

pub returns-clause-read : goal.returns-clause-read
returns-clause-read g c = λ told.
    let f = c.in_ok-fixed.ensures.ok told in
    let same = to_z-of_z w64 c.from_be_bytes.result (search rules) in
    fixed_value timestamp 0x83 8 _ _ _ _ (f.width, ap (λ n. Some (timestamp n)) (sym (same ∙ c.from_be_bytes.ensures)), tt) f
