use Rattle.std.proofs.Common.{◌≤◌, subst}
use Rattle.std.proofs.lemmas.Result.{err_from_is_err_and}
use Rattle.amqp_decoder.specs.State.{State}
use Rattle.amqp_decoder.proofs.Descriptors.{begun_describable, one_unbegun, one_missed, one_other, no_deeper, one_entered}
use Rattle.amqp_decoder.proofs.Steps.{answered}
use Rattle.amqp_decoder.proofs.decoder.Decoder.begin_one_of.Goals as goal

pub returns-in_err-begin_descriptor-clause-opened : goal.returns-in_err-begin_descriptor-clause-opened
returns-in_err-begin_descriptor-clause-opened g c = λ told.
    let p = err_from_is_err_and c.from_residual.result c.from_residual.ensures.1 in
    rw (p.1, p.2) (one_unbegun _ _ _ _ (c.in_err-begin_descriptor.ensures.err told) c.in_err-begin_descriptor.ensures.place)

pub returns-in_err-place-clause-opened : goal.returns-in_err-place-clause-opened
returns-in_err-place-clause-opened g c = λ told.
    let p = err_from_is_err_and c.from_residual-in_err-place.result c.from_residual-in_err-place.ensures.1 in
    let begun = c.in_ok-begin_descriptor.ensures.ok told in
    rw (p.1, p.2) (one_missed _ _ _ _ _ begun (c.in_err-place.ensures.err told (begun_describable _ _ begun))
    c.in_err-place.ensures.place)

pub returns-in_default-clause-opened : goal.returns-in_default-clause-opened
returns-in_default-clause-opened g c = λ told.
    let begun = c.in_ok-begin_descriptor.ensures.ok told in
    let took = rw c.in_default.is at (c.in_ok-place.ensures.ok told (begun_describable _ _ begun)) in
    one_other _ _ _ _ _ c.place-start.result _ begun took c.stop_at.ensures.answer
    (answered _ _ _ _ c.stop_at.ensures.kept c.stop_at.ensures.answer) c.stop_at.ensures.place c.place-start.ensures

pub returns-in_err-enter_described-clause-opened : goal.returns-in_err-enter_described-clause-opened
returns-in_err-enter_described-clause-opened g c = λ told.
    let begun = c.in_ok-begin_descriptor.ensures.ok told in
    let took = c.in_ok-place.ensures.ok told (begun_describable _ _ begun) in
    absurd (no_deeper _ _ took.took.own took.took.took c.in_ok-begin_descriptor.ensures.few c.in_err-enter_described.ensures.err.1)

pub returns-clause-opened : goal.returns-clause-opened
returns-clause-opened g c = λ told.
    let begun = c.in_ok-begin_descriptor.ensures.ok told in
    let took = c.in_ok-place.ensures.ok told (begun_describable _ _ begun) in
    one_entered _ _ _ _ _ _ begun (rw c.in-Some.is at took) c.in_ok-enter_described.ensures.ok

pub returns-clause-nesting : goal.returns-clause-nesting
returns-clause-nesting g c = λ told.
    let begun = c.in_ok-begin_descriptor.ensures.ok told in
    let took = c.in_ok-place.ensures.ok told (begun_describable _ _ begun) in
    subst (λ (x : State). x.nesting ≤ 128) begun.moved
    (subst (λ (x : State). x.nesting ≤ 128) took.took.took.moved c.in_ok-enter_described.ensures.nesting)
