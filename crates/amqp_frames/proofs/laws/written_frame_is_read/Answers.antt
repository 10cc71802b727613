use Rattle.amqp_frame_headers.specs.declared.frame_header.FrameKind.TheVariants.{Amqp}
use Rattle.amqp_frames.specs.Writing.{amqp_body}
use Rattle.amqp_frames.proofs.AgainLemmas.{amqp_again}
use Rattle.amqp_frame_headers.proofs.WrittenLemmas.{written_is_read}
use Rattle.amqp_frames.proofs.laws.written_frame_is_read.Goals as goal

pub returns-clause-frame : goal.returns-clause-frame
returns-clause-frame c = λ max channel p payload more small number fits.
    written_is_read max (Amqp channel) (amqp_body p payload) more small fits number

pub returns-clause-body : goal.returns-clause-body
returns-clause-body c = amqp_again
