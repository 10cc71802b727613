use Rattle.std.proofs.Common.{rules, arith, ◌≤◌, ◌<◌, ◌-◌, length, IfSome, sym, subst}
use Rattle.amqp_outlines.specs.Spans.{IsOutline}
use Rattle.amqp_blocks.specs.Blocks.{StandsWithin, IsBlock}
use Rattle.amqp_blocks.specs.declared.block.Subject.TheVariants.{Section}
use Rattle.amqp_blocks.proofs.BlockLemmas.{block_begins, at_most_the_end, past_the_begin}
use Rattle.amqp_blocks.proofs.message.Sections.next_block.Goals as goal

-- the section ends where its term does, or with the input
ends : (c : goal.In_ok-with_fault) → c.unwrap_or-len.result ≤ length c.args.input.now
ends c =
    let all = length c.args.input.now in
    let end = c.in_ok-entries.field-0.end in
    let h = at_most_the_end end 0 all (omega arith) c.in_ok-entries.ensures.ends in
    rw c.unwrap_or-len.ensures h.1

moves : (c : goal.In_ok-with_fault) → 0 < length c.args.input.now → 0 < c.unwrap_or-len.result
moves c some =
    let past = past_the_begin c.in_ok-entries.field-0.end 0 (length c.args.input.now) c.in_ok-entries.ensures.ends some in
    rw c.unwrap_or-len.ensures past

section : (c : goal.In_ok-with_fault) → IfSome c.take_fault-fault.result (StandsWithin c.unwrap_or-len.result)
    → IsBlock Section 0 c.unwrap_or-len.result c.unwrap_or-len.result c.in_ok-with_fault.field-0
section c within =
    let l = c.unwrap_or-len.result in
    let outline : IsOutline 0 l c.in_ok-entries.field-0.entries.items =
    rw c.unwrap_or-len.ensures (c.in_ok-entries.ensures.outline (omega arith)) in
    c.in_ok-with_fault.ensures Section 0 l l (c.with_value-block.ensures Section 0 l l (c.new.ensures 0 l) outline) within

pub returns-clause-block : goal.returns-clause-block
returns-clause-block c = λ ahead.
    let all = length c.args.input.now in
    let l = c.unwrap_or-len.result in
    let le = ends c in
    let fault = c.take_fault-fault.ensures all ahead le (λ last. search (rules, last)) in
    block_begins Section 0 l l c.in_ok-with_fault.field-0 c.args.input.now (section c fault.0) (omega arith) (omega arith) le (moves c) tt

pub returns-clause-ahead : goal.returns-clause-ahead
returns-clause-ahead c = λ ahead.
    let all = length c.args.input.now in
    let fault = c.take_fault-fault.ensures all ahead (ends c) (λ last. search (rules, last)) in
    subst (λ n. IfSome c.take_fault-fault.new.self.fault (StandsWithin (all - n))) (sym (section c fault.0).len) fault.1
