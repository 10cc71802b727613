use Rattle.std.proofs.Common.{rules}
use Rattle.amqp_bodies.proofs.TransposeSteps.{batch_transposed}
use Rattle.amqp_bodies.proofs.transpose.TransparentVecAmqpSequenceTransposeOption.transpose.Goals as goal

pub returns-in-Some-clause-value : goal.returns-in-Some-clause-value
returns-in-Some-clause-value g c =
    rw c.in-Some.is
    (batch_transposed g.T.DeserializeTerm.term c.in-Some.batch (λ e. search rules) c.all_sequences.result c.all_sequences.ensures.sequences)
