use Rattle.std.proofs.lemmas.Result.{err_from_is_err_and}
use Rattle.amqp_model.specs.Term.{list}
use Rattle.amqp_decoder.proofs.ReadPrimitives.{err_map}
use Rattle.amqp_decoder.proofs.Opening.{enter_unheaded, enter_unopened}
use Rattle.amqp_decoder.proofs.decoder.Decoder.open_list.Goals as goal

pub returns-in_err-count-clause-err : goal.returns-in_err-count-clause-err
returns-in_err-count-clause-err g c = λ told.
    let p = err_from_is_err_and c.from_residual.result c.from_residual.ensures.1 in
    rw (p.1, p.2) (enter_unheaded list _ _ _ _ (c.in_err-count.ensures.err told))

pub returns-clause-err : goal.returns-clause-err
returns-clause-err g c =
    λ told. err_map _ _ _ (λ e s. enter_unopened list _ _ _ _ _ _ _ (c.in_ok-count.ensures.ok told) tt s) (c.open.ensures.err told)
