use Rattle.std.proofs.Common.{arith, ap, ◌∙◌}
use Rattle.amqp_codec.specs.TermReading.{reading_of}
use Rattle.amqp_frame_headers.specs.Tables.{sasl_frame}
use Rattle.amqp_frames.specs.declared.body_error.BodyFault.TheVariants.{Value}
use Rattle.amqp_frames.proofs.BodyLemmas.{none_there, is_there, unread, only_memory}
use Rattle.amqp_frames.proofs.frames.Frame.sasl.Goals as goal

pub returns-then-is_empty-clause-read : goal.returns-then-is_empty-clause-read
returns-then-is_empty-clause-read c = λ v kind begins.
    absurd (none_there sasl_frame c.args.limits.now c.args.self.now.body.now v _ c.if-is_empty.ensures begins)

pub returns-then-len-self-clause-read : goal.returns-then-len-self-clause-read
returns-then-len-self-clause-read c = λ v kind begins.
    let whole = (c.in-Ok.ensures.one c.in-Ok.value v c.in-Ok.len _ c.in-Ok.ensures.found begins).1 in
    absurd (omega (arith, whole, c.if-len-self.true))

pub returns-else-len-self-clause-read : goal.returns-else-len-self-clause-read
returns-else-len-self-clause-read c = λ v kind begins. (c.in-Ok.ensures.one c.in-Ok.value v c.in-Ok.len _ c.in-Ok.ensures.found begins).0

pub returns-in-Err-clause-read : goal.returns-in-Err-clause-read
returns-in-Err-clause-read c = λ v kind begins.
    c.error-in-Err.ensures.fault
    ∙ ap Value (only_memory c.args.limits.now (reading_of sasl_frame) c.args.self.now.body.now c.in-Err.error v _ c.in-Err.ensures.refused
    begins)

pub returns-in-Err-clause-refused : goal.returns-in-Err-clause-refused
returns-in-Err-clause-refused c =
    let there = is_there c.args.self.now.body.now c.if-is_empty.ensures in
    let cause = unread c.args.limits.now (reading_of sasl_frame) c.args.self.now.body.now c.in-Err.error c.in-Err.ensures.refused
    c.in-Err.ensures.unfailing c.in-Err.ensures.limited in
    rw (c.error-in-Err.ensures.fault, c.error-in-Err.ensures.at) (rw c.in-Sasl.is tt, there, cause, omega arith)
