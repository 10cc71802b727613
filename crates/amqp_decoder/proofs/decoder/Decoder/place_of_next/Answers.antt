use Rattle.amqp_decoder.specs.Described.{TakesPlace}
use Rattle.amqp_decoder.proofs.Places.{placed_ok, placed_missed, placed_goes, placed_there}
use Rattle.amqp_decoder.proofs.decoder.Decoder.place_of_next.Goals as goal

pub returns-clause-ok : goal.returns-clause-ok
returns-clause-ok g c = λ told shared. rw (c.placed.ensures.same, c.placed.ensures.kept)
    (placed_ok (λ place. TakesPlace _ _ place) _ c.place-place.result _ (c.any_place-answer.ensures.ok told shared))

pub returns-clause-err : goal.returns-clause-err
returns-clause-err g c = λ told shared. rw (c.placed.ensures.same, c.placed.ensures.kept)
    (placed_missed _ _ _ c.place-place.result _ (c.any_place-answer.ensures.err told shared))

pub returns-clause-goes : goal.returns-clause-goes
returns-clause-goes g c = rw (c.placed.ensures.same, c.placed.ensures.kept)
    (search (placed_goes, c.any_place-answer.ensures.goes))

pub returns-clause-place : goal.returns-clause-place
returns-clause-place g c = rw (c.placed.ensures.same, c.placed.ensures.kept) (placed_there c.args.self.now _ _ _ c.place-place.ensures)
