use Rattle.amqp_codec.specs.TermReading.{reading_of}
use Rattle.amqp_batches.specs.laws.Bound.{bounded, term_bound}
use Rattle.amqp_batches.specs.Batches.{batch_reading, batch_bound}
use Rattle.amqp_batches.proofs.laws.limits_bound_batches.Goals as goal

pub returns : goal.returns
returns g c =
    let r = reading_of g.T.DeserializeTerm.term in
    let code = g.T.BatchItem.code in
    record { within = bounded (batch_reading code r) (batch_bound code r (term_bound g.T.DeserializeTerm.term)) }
