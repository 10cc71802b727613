use Rattle.std.proofs.lemmas.Result.{err_from_is_err_and}
use Rattle.amqp_decoder.proofs.Descriptors.{begun_describable, any_unbegun, any_missed, no_deeper, any_entered}
use Rattle.amqp_decoder.proofs.decoder.Decoder.begin_described.Goals as goal

pub returns-in_err-begin_descriptor-clause-opened : goal.returns-in_err-begin_descriptor-clause-opened
returns-in_err-begin_descriptor-clause-opened g c = λ told.
    let p = err_from_is_err_and c.from_residual.result c.from_residual.ensures.1 in
    rw (p.1, p.2) (any_unbegun _ _ _ (c.in_err-begin_descriptor.ensures.err told) c.in_err-begin_descriptor.ensures.place)

pub returns-in_err-descriptor-clause-opened : goal.returns-in_err-descriptor-clause-opened
returns-in_err-descriptor-clause-opened g c = λ told.
    let p = err_from_is_err_and c.from_residual-in_err-descriptor.result c.from_residual-in_err-descriptor.ensures.1 in
    let begun = c.in_ok-begin_descriptor.ensures.ok told in
    rw (p.1, p.2) (any_missed _ _ _ _ begun (c.in_err-descriptor.ensures.err told (begun_describable _ _ begun))
    c.in_err-descriptor.ensures.place)

pub returns-in-Ok-clause-opened : goal.returns-in-Ok-clause-opened
returns-in-Ok-clause-opened g c = λ told.
    let begun = c.in_ok-begin_descriptor.ensures.ok told in
    any_entered _ _ _ _ _ begun (c.in_ok-descriptor.ensures.ok told (begun_describable _ _ begun)) c.in-Ok.ensures.ok

pub returns-in-Err-clause-opened : goal.returns-in-Err-clause-opened
returns-in-Err-clause-opened g c = λ told.
    let begun = c.in_ok-begin_descriptor.ensures.ok told in
    let took = c.in_ok-descriptor.ensures.ok told (begun_describable _ _ begun) in
    absurd (no_deeper _ _ took.own took.took c.in_ok-begin_descriptor.ensures.few c.in-Err.ensures.err.1)
