use Rattle.std.proofs.Common.{ℕ, ◌-◌, length, drop, arith, ap, sym, ◌∙◌}
use Rattle.std.proofs.lemmas.List.{length-drop, take_all}
use Rattle.amqp_codec.specs.TermReading.{reading_of}
use Rattle.amqp_attach.specs.Tables.{performative}
use Rattle.amqp_frames.specs.declared.body_error.BodyFault.TheVariants.{Value}
use Rattle.amqp_frames.proofs.BodyLemmas.{none_there, is_there, unread, only_memory}
use Rattle.amqp_frames.proofs.frames.Frame.amqp.Goals as goal

pub returns-then-is_empty-clause-read : goal.returns-then-is_empty-clause-read
returns-then-is_empty-clause-read c = λ p payload kind body.
    none_there performative c.args.limits.now c.args.self.now.body.now p body.len c.if-is_empty.ensures body.begins

pub returns-in-Ok-clause-read : goal.returns-in-Ok-clause-read
returns-in-Ok-clause-read c = λ p payload kind body.
    let same = c.in-Ok.ensures.one c.in-Ok.performative p c.in-Ok.len body.len c.in-Ok.ensures.found body.begins in
    let payload_is = take_all (length c.args.self.now.body.now - c.in-Ok.len) (drop c.in-Ok.len c.args.self.now.body.now)
    (omega (arith, length-drop c.in-Ok.len c.args.self.now.body.now)) in
    (same.0, payload_is ∙ (ap (λ (n : ℕ). drop n c.args.self.now.body.now) same.1 ∙ sym body.rest))

pub returns-in-Err-clause-read : goal.returns-in-Err-clause-read
returns-in-Err-clause-read c = λ p payload kind body.
    c.error.ensures.fault
    ∙ ap Value (only_memory c.args.limits.now (reading_of performative) c.args.self.now.body.now c.in-Err.error p body.len
    c.in-Err.ensures.refused body.begins)

pub returns-in-Err-clause-refused : goal.returns-in-Err-clause-refused
returns-in-Err-clause-refused c =
    let there = is_there c.args.self.now.body.now c.if-is_empty.ensures in
    let cause = unread c.args.limits.now (reading_of performative) c.args.self.now.body.now c.in-Err.error c.in-Err.ensures.refused
    c.in-Err.ensures.unfailing c.in-Err.ensures.limited in
    rw (c.error.ensures.fault, c.error.ensures.at) (rw c.in-Amqp.is tt, there, cause, omega arith)
