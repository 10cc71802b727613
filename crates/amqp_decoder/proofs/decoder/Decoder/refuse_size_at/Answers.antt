use Rattle.amqp_decoder.proofs.Places.{moved_size}
use Rattle.amqp_decoder.proofs.decoder.Decoder.refuse_size_at.Goals as goal

pub returns-clause-refused : goal.returns-clause-refused
returns-clause-refused g c = λ told. rw c.set_fault.ensures (moved_size _ _ _ _ _ (c.refuse_behind-error.ensures.refused told))
