use Rattle.std.proofs.lemmas.Result.{err_from_is_err_and}
use Rattle.amqp_decoder.proofs.ReadPrimitives.{ok_map, err_map}
use Rattle.amqp_decoder.proofs.KeptBytes.{keeps_next}
use Rattle.amqp_decoder.proofs.Steps.{stopped_short, stopped_missed}
use Rattle.amqp_decoder.proofs.decoder.Decoder.keep_next.Goals as goal

pub returns-in_err-lower-clause-err : goal.returns-in_err-lower-clause-err
returns-in_err-lower-clause-err g c = λ told.
    let p = err_from_is_err_and c.from_residual.result c.from_residual.ensures.1 in
    rw (p.1, p.2) (stopped_short _ _ _ _ (c.in_err-lower.ensures.err told))

pub returns-clause-ok : goal.returns-clause-ok
returns-clause-ok g c =
    λ told. ok_map _ _ _ (λ x h. keeps_next _ _ _ _ _ _ c.in_ok-lower.ensures.room c.in_ok-lower.ensures.new h) (c.keep.ensures.ok told)

pub returns-clause-err : goal.returns-clause-err
returns-clause-err g c =
    λ told. err_map _ _ _ (λ e h. stopped_missed _ _ _ _ _ c.in_ok-lower.ensures.room c.in_ok-lower.ensures.new h) (c.keep.ensures.err told)
