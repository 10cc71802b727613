use Rattle.std.proofs.Common.{rules, refl}
use Rattle.std.proofs.lemmas.Result.{err_from_is_err_and}
use Rattle.amqp_lookahead.proofs.KindsOfCodes.{not_three}
use Rattle.amqp_decoder.proofs.ReadPrimitives.{short_data}
use Rattle.amqp_decoder.proofs.decoder.Decoder.ulong_data.Goals as goal

pub returns-in_err-byte-in-83-clause-err : goal.returns-in_err-byte-in-83-clause-err
returns-in_err-byte-in-83-clause-err g c = λ told.
    let p = err_from_is_err_and c.from_residual.result c.from_residual.ensures.1 in
    rw (p.1, p.2, c.in-83.is) (short_data 5 83 1 _ _ _ refl (λ l. l) (c.in_err-byte-in-83.ensures.err told))

pub returns-in_err-take-in-128-clause-err : goal.returns-in_err-take-in-128-clause-err
returns-in_err-take-in-128-clause-err g c = λ told.
    let p = err_from_is_err_and c.from_residual-in_err-take-in-128.result c.from_residual-in_err-take-in-128.ensures.1 in
    rw (p.1, p.2, c.in-128.is) (short_data 5 128 8 _ _ _ refl (λ l. l) (c.in_err-take-in-128.ensures.err told))

pub returns-in_default-clause-ok : goal.returns-in_default-clause-ok
returns-in_default-clause-ok g c = λ told. (not_three 5 _ 68 83 128 refl (search rules) (search rules) (search rules), refl)
