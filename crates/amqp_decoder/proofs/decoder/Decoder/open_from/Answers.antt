use Rattle.amqp_decoder.specs.Arrays.{OpensItems}
use Rattle.amqp_decoder.proofs.Places.{placed_ok, placed_stops, placed_goes, placed_at}
use Rattle.amqp_decoder.proofs.decoder.Decoder.open_from.Goals as goal

pub returns-clause-ok : goal.returns-clause-ok
returns-clause-ok g c = λ told. rw (c.placed.ensures.same, c.placed.ensures.kept)
    (placed_ok (λ h. OpensItems _ _ h.0 h.1) _ _ _ (c.open_any-opened.ensures.ok told))

pub returns-clause-err : goal.returns-clause-err
returns-clause-err g c = λ told. rw (c.placed.ensures.same, c.placed.ensures.kept)
    (placed_stops _ _ _ _ _ _ (c.open_any-opened.ensures.err told))

pub returns-clause-goes : goal.returns-clause-goes
returns-clause-goes g c = rw (c.placed.ensures.same, c.placed.ensures.kept)
    (search (placed_goes, c.open_any-opened.ensures.goes))

pub returns-clause-place : goal.returns-clause-place
returns-clause-place g c = rw (c.placed.ensures.same, c.placed.ensures.kept) (placed_at _ _ _)
