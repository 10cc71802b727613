use Rattle.std.proofs.Common.{rules, arith, ◌≡◌, ◌%◌}
use Rattle.std.proofs.lemmas.Result.{err_from_is_err_and}
use Rattle.amqp_model.specs.Term.{map}
use Rattle.amqp_decoder.proofs.ReadPrimitives.{err_map}
use Rattle.amqp_decoder.proofs.Opening.{enter_unheaded, enter_unopened, enter_odd}
use Rattle.amqp_decoder.proofs.Steps.{answered}
use Rattle.amqp_decoder.proofs.decoder.Decoder.open_map.Goals as goal

pub returns-in_err-count-clause-err : goal.returns-in_err-count-clause-err
returns-in_err-count-clause-err g c = λ told.
    let p = err_from_is_err_and c.from_residual.result c.from_residual.ensures.1 in
    rw (p.1, p.2) (enter_unheaded map _ _ _ _ (c.in_err-count.ensures.err told))

pub returns-then-count-eq1-clause-err : goal.returns-then-count-eq1-clause-err
returns-then-count-eq1-clause-err g c = λ told.
    enter_odd _ _ _ _ _ _ _ (c.in_ok-count.ensures.ok told) (search rules) c.stop.ensures.answer
    (answered _ _ _ _ c.stop.ensures.kept c.stop.ensures.answer)

pub returns-clause-err : goal.returns-clause-err
returns-clause-err g c = λ told.
    let even : c.in_ok-count.count % 2 ≡ 0 = omega (arith, c.if-count-eq1.false) in
    err_map _ _ _ (λ e s. enter_unopened map _ _ _ _ _ _ _ (c.in_ok-count.ensures.ok told) even s) (c.open.ensures.err told)
