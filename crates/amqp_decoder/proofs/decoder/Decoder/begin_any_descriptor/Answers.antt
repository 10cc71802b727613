use Rattle.std.proofs.Common.{◌<◌, length}
use Rattle.amqp_decoder.specs.State.{State}
use Rattle.amqp_decoder.specs.Reading.{ReadsCode}
use Rattle.amqp_decoder.proofs.Places.{placed_ok, placed_fault, placed_tries, placed_here}
use Rattle.amqp_decoder.proofs.decoder.Decoder.begin_any_descriptor.Goals as goal

pub returns-clause-ok : goal.returns-clause-ok
returns-clause-ok g c = λ told. rw (c.placed.ensures.same, c.placed.ensures.kept)
    (placed_ok (λ _. ReadsCode _ 0) _ _ _ (c.any_begun-answer.ensures.ok told))

pub returns-clause-few : goal.returns-clause-few
returns-clause-few g c = rw (c.placed.ensures.same, c.placed.ensures.kept)
    (placed_ok (λ _ (st : State). length st.saved < st.nesting) _ _ _ c.any_begun-answer.ensures.few)

pub returns-clause-err : goal.returns-clause-err
returns-clause-err g c = λ told. rw (c.placed.ensures.same, c.placed.ensures.kept)
    (placed_fault _ _ _ _ _ _ c.start-start.ensures (c.any_begun-answer.ensures.err told))

pub returns-clause-tries : goal.returns-clause-tries
returns-clause-tries g c = rw (c.placed.ensures.same, c.placed.ensures.kept)
    (placed_tries _ _ _ _ _ c.start-start.ensures c.any_begun-answer.ensures.tries)

pub returns-clause-place : goal.returns-clause-place
returns-clause-place g c = rw (c.placed.ensures.same, c.placed.ensures.kept) (placed_here _ _ _ _ c.start-start.ensures)
