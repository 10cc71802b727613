use Rattle.std.proofs.Common.{◌++◌, drop, refl, ap, ◌∙◌, arith}
use Rattle.std.proofs.lemmas.List.{length-take-le}
use Rattle.amqp_read_write.proofs.FilledMemory.{behind_front}
use Rattle.amqp_read_write.proofs.calls.write_into.Goals as goal

pub fill_memory-requires-clause-measured : goal.fill_memory-requires-clause-measured
fill_memory-requires-clause-measured g c =
    rw (length-take-le c.in_ok-len.len c.args.room.now c.if-room-len.false) c.in_ok-len.ensures.measured

pub returns-then-room-len-clause-text : goal.returns-then-room-len-clause-text
returns-then-room-len-clause-text g c h = let no : ⊥ = omega (arith, h, c.if-room-len.true) in absurd no

pub returns-then-room-len-clause-short : goal.returns-then-room-len-clause-short
returns-then-room-len-clause-short g c h = refl

pub returns-in_err-fill_memory-clause-behind : goal.returns-in_err-fill_memory-clause-behind
returns-in_err-fill_memory-clause-behind g c =
    behind_front _ c.in_ok-len.len c.fill_memory.new.memory c.args.room.now c.in_ok-len.ensures.len
    (c.fill_memory.auto.memory ∙ length-take-le c.in_ok-len.len c.args.room.now c.if-room-len.false)

pub returns-clause-text : goal.returns-clause-text
returns-clause-text g c h = ap (λ text. text ++ drop c.in_ok-len.len c.args.room.now) c.in_ok-fill_memory.ensures.text

pub returns-clause-short : goal.returns-clause-short
returns-clause-short g c h = let no : ⊥ = omega (arith, h, c.if-room-len.false) in absurd no

pub returns-clause-behind : goal.returns-clause-behind
returns-clause-behind g c =
    behind_front _ c.in_ok-len.len c.fill_memory.new.memory c.args.room.now c.in_ok-len.ensures.len
    (c.fill_memory.auto.memory ∙ length-take-le c.in_ok-len.len c.args.room.now c.if-room-len.false)
