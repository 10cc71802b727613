use Rattle.std.proofs.Common.{append-nil}
use Rattle.amqp_codec.specs.Spelled.{written}
use Rattle.amqp_frame_headers.specs.Tables.{sasl_frame}
use Rattle.amqp_frames.proofs.writing.write_sasl_frame.Goals as goal

pub returns-clause-text : goal.returns-clause-text
returns-clause-text c = rw (append-nil (written sasl_frame c.args.value.now)) at c.append_frame.ensures.text

pub returns-clause-len : goal.returns-clause-len
returns-clause-len c = rw (append-nil (written sasl_frame c.args.value.now)) at c.append_frame.ensures.len

pub returns-clause-refused : goal.returns-clause-refused
returns-clause-refused c = rw (append-nil (written sasl_frame c.args.value.now)) at c.append_frame.ensures.refused
