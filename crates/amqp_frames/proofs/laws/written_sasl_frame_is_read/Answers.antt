use Rattle.amqp_codec.specs.Spelled.{written}
use Rattle.amqp_frame_headers.specs.Tables.{sasl_frame}
use Rattle.amqp_frame_headers.specs.declared.frame_header.FrameKind.TheVariants.{Sasl}
use Rattle.amqp_frames.proofs.AgainLemmas.{sasl_again}
use Rattle.amqp_frame_headers.proofs.WrittenLemmas.{written_is_read}
use Rattle.amqp_frames.proofs.laws.written_sasl_frame_is_read.Goals as goal

pub returns-clause-frame : goal.returns-clause-frame
returns-clause-frame c = λ max v more small fits may. written_is_read max Sasl (written sasl_frame v) more small fits may

pub returns-clause-body : goal.returns-clause-body
returns-clause-body c = sasl_again
