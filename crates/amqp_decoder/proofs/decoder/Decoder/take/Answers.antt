use Rattle.std.proofs.Common.{refl, ◌∙◌}
use Rattle.amqp_decoder.proofs.ReadPrimitives.{err_map}
use Rattle.amqp_decoder.proofs.Steps.{short_of_missed}
use Rattle.amqp_decoder.proofs.decoder.Decoder.take.Goals as goal

pub returns-clause-err : goal.returns-clause-err
returns-clause-err g c = λ told.
    let is = c.pull_ready.ensures.left c.if-pull_ready.false ∙ c.in_ok-lower.ensures.new in
    err_map _ _ _ (λ e h. short_of_missed _ _ _ _ _ _ refl c.in_ok-lower.ensures.room is h) (c.pull_bytes.ensures.err told)
