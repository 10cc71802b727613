use Rattle.std.specs.Prelude.{IfErr, IfOk, true}
use Rattle.std.proofs.Common.{refl, subst}
use Rattle.amqp_decoder.specs.Steps.{Tries}
use Rattle.amqp_decoder.specs.Primitives.{AnswersFault, ReadsText, TextFault}
use Rattle.amqp_decoder.proofs.ReadPrimitives.{ok_map, err_map}
use Rattle.amqp_decoder.proofs.QuickTexts.{quick_text, quick_text_cut, tried_second}
use Rattle.amqp_decoder.proofs.decoder.Decoder.content.Goals as goal

pub returns-in-Some-clause-ok : goal.returns-in-Some-clause-ok
returns-in-Some-clause-ok g c = λ told.
    ok_map _ _ _ (λ text t. quick_text _ _ _ _ _ _ _ (c.in-Some.ensures.read told) t) (c.bytes_of.ensures.ok told)

pub returns-in-Some-clause-err : goal.returns-in-Some-clause-err
returns-in-Some-clause-err g c = λ told.
    err_map _ _ _ (λ e s. quick_text_cut _ _ _ _ _ _ _ (c.in-Some.ensures.read told) s)
    (c.bytes_of.ensures.err told)

pub returns-in-Some-clause-tries : goal.returns-in-Some-clause-tries
returns-in-Some-clause-tries g c =
    tried_second _ _ c.plain_len.new.self _ _ c.in-Some.ensures.began c.bytes_of.ensures.goes

pub returns-in-Some-element_len-clause-ok : goal.returns-in-Some-element_len-clause-ok
returns-in-Some-element_len-clause-ok g c = λ told.
    subst (λ st. IfOk c.bytes_of-in-Some-element_len.result
    (λ text. ReadsText c.args.narrow c.args.wide st text.items c.bytes_of-in-Some-element_len.new.self)) (c.in_default.ensures.none refl)
    (ok_map _ _ _ (λ text t. quick_text _ _ _ _ _ _ _ (c.in-Some-element_len.ensures.read told) t)
    (c.bytes_of-in-Some-element_len.ensures.ok told))

pub returns-in-Some-element_len-clause-err : goal.returns-in-Some-element_len-clause-err
returns-in-Some-element_len-clause-err g c = λ told.
    subst (λ st. IfErr c.bytes_of-in-Some-element_len.result
    (λ e. AnswersFault true (TextFault c.args.narrow c.args.wide) st e c.bytes_of-in-Some-element_len.new.self)) (c.in_default.ensures.none refl)
    (err_map _ _ _ (λ e s. quick_text_cut _ _ _ _ _ _ _ (c.in-Some-element_len.ensures.read told) s)
    (c.bytes_of-in-Some-element_len.ensures.err told))

pub returns-in-Some-element_len-clause-tries : goal.returns-in-Some-element_len-clause-tries
returns-in-Some-element_len-clause-tries g c =
    subst (λ st. Tries true st c.bytes_of-in-Some-element_len.result c.bytes_of-in-Some-element_len.new.self) (c.in_default.ensures.none refl)
    (tried_second _ _ c.element_len.new.self _ _ c.in-Some-element_len.ensures.began c.bytes_of-in-Some-element_len.ensures.goes)
