use Rattle.std.proofs.lemmas.Result.{err_from_is_err_and}
use Rattle.std.proofs.Common.{refl, rules}
use Rattle.amqp_lookahead.proofs.KindsOfCodes.{kind_is}
use Rattle.amqp_decoder.proofs.ReadPrimitives.{ok_map, err_map}
use Rattle.amqp_decoder.proofs.KeptConstructors.{keeps_named, keeps_ulong_0, small_ulong_means, ulong_means, symbol_8_means}
use Rattle.amqp_decoder.proofs.KeptConstructors.{symbol_32_means, unnamed_code, unnamed_ulong, unnamed_symbol, unnamed_other}
use Rattle.amqp_decoder.proofs.decoder.Decoder.keep_any_descriptor.Goals as goal

pub returns-in_err-code-clause-err : goal.returns-in_err-code-clause-err
returns-in_err-code-clause-err g c = λ told.
    let p = err_from_is_err_and c.from_residual.result c.from_residual.ensures.1 in
    rw (p.1, p.2) (unnamed_code _ _ _ (c.in_err-code.ensures.err told))

pub returns-in-68-clause-ok : goal.returns-in-68-clause-ok
returns-in-68-clause-ok g c = λ told. keeps_ulong_0 _ _ _ _ _ c.in-68.is (c.in_ok-code.ensures.ok told)

pub returns-in-83-clause-ok : goal.returns-in-83-clause-ok
returns-in-83-clause-ok g c =
    λ told. ok_map _ _ _ (λ x h. keeps_named _ _ 0x53 _ _ _ _ _ _ small_ulong_means c.in-83.is (c.in_ok-code.ensures.ok told) h)
    (c.keep_next.ensures.ok told)

pub returns-in-83-clause-err : goal.returns-in-83-clause-err
returns-in-83-clause-err g c =
    λ told. err_map _ _ _ (λ e h. unnamed_ulong _ 0x53 1 _ _ _ _ _ _ c.in-83.is (kind_is 0x53 5 refl) (λ d x. x)
    (c.in_ok-code.ensures.ok told) h) (c.keep_next.ensures.err told)

pub returns-in-128-clause-ok : goal.returns-in-128-clause-ok
returns-in-128-clause-ok g c =
    λ told. ok_map _ _ _ (λ x h. keeps_named _ _ 0x80 _ _ _ _ _ _ ulong_means c.in-128.is (c.in_ok-code.ensures.ok told) h)
    (c.keep_next-in-128.ensures.ok told)

pub returns-in-128-clause-err : goal.returns-in-128-clause-err
returns-in-128-clause-err g c =
    λ told. err_map _ _ _ (λ e h. unnamed_ulong _ 0x80 8 _ _ _ _ _ _ c.in-128.is (kind_is 0x80 5 refl) (λ d x. x)
    (c.in_ok-code.ensures.ok told) h) (c.keep_next-in-128.ensures.err told)

pub returns-in-163-clause-ok : goal.returns-in-163-clause-ok
returns-in-163-clause-ok g c =
    λ told. ok_map _ _ _ (λ x h. keeps_named _ _ 0xa3 _ _ _ _ _ _ symbol_8_means c.in-163.is (c.in_ok-code.ensures.ok told) h)
    (c.keep_symbol.ensures.ok told)

pub returns-in-163-clause-err : goal.returns-in-163-clause-err
returns-in-163-clause-err g c =
    λ told. err_map _ _ _ (λ e h. unnamed_symbol _ 0xa3 1 _ _ _ _ _ _ c.in-163.is refl (kind_is 0xa3 18 refl) (c.in_ok-code.ensures.ok told)
    h) (c.keep_symbol.ensures.err told)

pub returns-in-179-clause-ok : goal.returns-in-179-clause-ok
returns-in-179-clause-ok g c =
    λ told. ok_map _ _ _ (λ x h. keeps_named _ _ 0xb3 _ _ _ _ _ _ symbol_32_means c.in-179.is (c.in_ok-code.ensures.ok told) h)
    (c.keep_symbol-in-179.ensures.ok told)

pub returns-in-179-clause-err : goal.returns-in-179-clause-err
returns-in-179-clause-err g c =
    λ told. err_map _ _ _ (λ e h. unnamed_symbol _ 0xb3 4 _ _ _ _ _ _ c.in-179.is refl (kind_is 0xb3 18 refl) (c.in_ok-code.ensures.ok told)
    h) (c.keep_symbol-in-179.ensures.err told)

pub returns-in_default-clause-err : goal.returns-in_default-clause-err
returns-in_default-clause-err g c = λ told.
    unnamed_other c.in_ok-code.code _ _ _ _ _ _ (search rules) (search rules) (search rules) (search rules) (search rules)
    (c.in_ok-code.ensures.ok told) c.refuse_descriptor.ensures.answer c.refuse_descriptor.ensures.kept
