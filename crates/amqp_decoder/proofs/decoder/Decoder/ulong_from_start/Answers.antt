use Rattle.amqp_decoder.proofs.Places.{placed_read, placed_tries, placed_here}
use Rattle.amqp_decoder.proofs.decoder.Decoder.ulong_from_start.Goals as goal

pub returns-clause-read : goal.returns-clause-read
returns-clause-read g c = λ told. rw (c.placed.ensures.same, c.placed.ensures.kept)
    (search (placed_read, c.start-start.ensures, c.any_ulong-answer.ensures.read told))

pub returns-clause-tries : goal.returns-clause-tries
returns-clause-tries g c = rw (c.placed.ensures.same, c.placed.ensures.kept)
    (placed_tries _ _ _ _ _ c.start-start.ensures c.any_ulong-answer.ensures.tries)

pub returns-clause-place : goal.returns-clause-place
returns-clause-place g c = rw (c.placed.ensures.same, c.placed.ensures.kept) (placed_here _ _ _ _ c.start-start.ensures)
