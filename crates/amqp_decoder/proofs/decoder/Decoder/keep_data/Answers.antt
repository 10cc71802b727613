use Rattle.amqp_decoder.specs.Terms.{Keeps}
use Rattle.amqp_decoder.proofs.Places.{placed_ok, placed_stops, placed_goes, placed_at}
use Rattle.amqp_decoder.proofs.decoder.Decoder.keep_data.Goals as goal

pub returns-clause-ok : goal.returns-clause-ok
returns-clause-ok g c = λ told known. rw (c.placed.ensures.same, c.placed.ensures.kept)
    (placed_ok (λ _. Keeps _ _ _ _) _ _ _ (c.keep_any_data-kept.ensures.ok told known))

pub returns-clause-err : goal.returns-clause-err
returns-clause-err g c = λ told known. rw (c.placed.ensures.same, c.placed.ensures.kept)
    (placed_stops _ _ _ _ _ _ (c.keep_any_data-kept.ensures.err told known))

pub returns-clause-goes : goal.returns-clause-goes
returns-clause-goes g c = rw (c.placed.ensures.same, c.placed.ensures.kept)
    (search (placed_goes, c.keep_any_data-kept.ensures.goes))

pub returns-clause-place : goal.returns-clause-place
returns-clause-place g c = rw (c.placed.ensures.same, c.placed.ensures.kept) (placed_at _ _ _)
