use Rattle.std.proofs.Common.{[], ◌∷◌}
use Rattle.amqp_decoder.specs.Steps.{Takes}
use Rattle.amqp_decoder.proofs.Places.{placed_ok, placed_stops, placed_goes, placed_there}
use Rattle.amqp_decoder.proofs.ReadPrimitives.{err_map}
use Rattle.amqp_decoder.proofs.Steps.{stopped_short}
use Rattle.amqp_decoder.proofs.decoder.Decoder.next_code.Goals as goal

pub returns-clause-ok : goal.returns-clause-ok
returns-clause-ok g c = λ told. rw (c.placed.ensures.same, c.placed.ensures.kept)
    (placed_ok (λ b. Takes _ (b ∷ [])) _ c.place-place.result _ (c.byte-code.ensures.ok told))

pub returns-clause-err : goal.returns-clause-err
returns-clause-err g c = λ told. rw (c.placed.ensures.same, c.placed.ensures.kept)
    (placed_stops _ _ _ _ c.place-place.result _ (err_map _ _ _ (λ e h. stopped_short _ _ _ _ h) (c.byte-code.ensures.err told)))

pub returns-clause-goes : goal.returns-clause-goes
returns-clause-goes g c = rw (c.placed.ensures.same, c.placed.ensures.kept) (search (placed_goes, c.byte-code.ensures.goes))

pub returns-clause-place : goal.returns-clause-place
returns-clause-place g c = rw (c.placed.ensures.same, c.placed.ensures.kept) (placed_there c.args.self.now _ _ _ c.place-place.ensures)
