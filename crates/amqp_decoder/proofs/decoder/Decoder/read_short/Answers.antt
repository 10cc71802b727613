use Rattle.std.proofs.Common.{rules, Some, refl, ap, sym, ◌∙◌}
use Rattle.std.proofs.lemmas.Result.{err_from_is_err_and}
use Rattle.amqp_model.specs.Term.{short}
use Rattle.amqp_decoder.proofs.ReadPrimitives.{fixed_refused, fixed_value}
use Rattle.std.specs.Int.{w16}
use Rattle.std.proofs.lemmas.Int.{to_z-of_z}
use Rattle.amqp_decoder.proofs.decoder.Decoder.read_short.Goals as goal

pub returns-in_err-fixed-clause-read : goal.returns-in_err-fixed-clause-read
returns-in_err-fixed-clause-read g c = λ told.
    let p = err_from_is_err_and c.from_residual.result c.from_residual.ensures.1 in
    rw (p.1, p.2) (fixed_refused short 7 0x61 2 _ _ _ (λ v. refl) refl refl (λ m l. l) (c.in_err-fixed.ensures.err told))

pub returns-clause-read : goal.returns-clause-read
returns-clause-read g c = λ told.
    let f = c.in_ok-fixed.ensures.ok told in
    let same = to_z-of_z w16 c.from_be_bytes.result (search rules) in
    fixed_value short 0x61 2 _ _ _ _ (f.width, ap (λ n. Some (short n)) (sym (same ∙ c.from_be_bytes.ensures)), tt) f
