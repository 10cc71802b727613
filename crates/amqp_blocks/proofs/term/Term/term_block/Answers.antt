use Rattle.std.proofs.Common.{rules, arith, ◌≤◌, ◌<◌, ◌^◌, ◌+◌, length}
use Rattle.amqp_outlines.specs.Spans.{IsOutline}
use Rattle.amqp_blocks.specs.declared.block.Subject.TheVariants.{Term}
use Rattle.amqp_blocks.proofs.BlockLemmas.{block_begins, blocks_begin, at_most_the_end, past_the_begin}
use Rattle.amqp_blocks.proofs.term.Term.term_block.Goals as goal

pub returns-in-Value : goal.returns-in-Value
returns-in-Value c =
    let all = length c.args.input.now in
    let end = c.in_ok-entries.field-0.end in
    let h = at_most_the_end end 0 all (omega arith) c.in_ok-entries.ensures.ends in
    let l = c.unwrap_or-outlined.result in
    let le : l ≤ all = rw c.unwrap_or-outlined.ensures h.1 in
    let outline : IsOutline 0 l c.in_ok-entries.field-0.entries.items =
    rw c.unwrap_or-outlined.ensures (c.in_ok-entries.ensures.outline (omega arith)) in
    let moves : 0 < all → 0 < l = λ some. rw c.unwrap_or-outlined.ensures (past_the_begin end 0 all c.in_ok-entries.ensures.ends some) in
    block_begins Term 0 l c.max.result c.with_value.result c.args.input.now
    (c.with_value.ensures Term 0 l c.max.result (c.new.ensures 0 l) outline) (omega arith) (omega (arith, c.max.ensures))
    (omega (arith, c.max.ensures, c.in-Value.ensures, le)) (λ some. let past = moves some in omega (arith, c.max.ensures, past)) tt

pub returns-in_ok-fault-in-Refused : goal.returns-in_ok-fault-in-Refused
returns-in_ok-fault-in-Refused c =
    let all = length c.args.input.now in
    let end = c.in_ok-entries.field-0.end in
    let h = at_most_the_end end 0 all (omega arith) c.in_ok-entries.ensures.ends in
    let l = c.unwrap_or-outlined.result in
    let n = c.max-in-Refused.result in
    let le : l ≤ all = rw c.unwrap_or-outlined.ensures h.1 in
    let outline : IsOutline 0 l c.in_ok-entries.field-0.entries.items =
    rw c.unwrap_or-outlined.ensures (c.in_ok-entries.ensures.outline (omega arith)) in
    let moves : 0 < all → 0 < l = λ some. rw c.unwrap_or-outlined.ensures (past_the_begin end 0 all c.in_ok-entries.ensures.ends some) in
    let fits : 0 + c.in-Refused.refusal.at < 2 ^ 64 = search rules in
    let at = c.in_ok-fault-in-Refused.ensures.place fits in
    blocks_begin Term 0 l n c.with_fault.result c.args.input.now (λ b. tt) (omega arith) (omega (arith, c.max-in-Refused.ensures))
    (omega (arith, c.max-in-Refused.ensures, c.in-Refused.ensures, at, le))
    (λ some. let past = moves some in omega (arith, c.max-in-Refused.ensures, past))
    (c.with_fault.ensures Term 0 l n (c.with_value-in-Refused.ensures Term 0 l n (c.new-in-Refused.ensures 0 l) outline)
    (omega (arith, c.max-in-Refused.ensures)))
