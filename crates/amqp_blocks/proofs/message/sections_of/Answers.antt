use Rattle.std.proofs.Common.{arith, length, unwrap_or}
use Rattle.amqp_outlines.proofs.OutlineLemmas.{longer_outline}
use Rattle.amqp_blocks.proofs.BlockLemmas.{at_most_the_end}
use Rattle.amqp_blocks.proofs.message.sections_of.Goals as goal
use Rattle.amqp_blocks.proofs.message.sections_of.Goals.{else-sections-test, then-sections-test+in_ok-end+in_default-2, then-sections-test+in_ok-end+in_default}

pub sections-preserved : goal.sections-preserved
sections-preserved c = λ le.
    let before = c.sections.invariant le in
    let ends = rw c.in-Some.is at c.in_ok-end.ensures.ends in
    let outline = rw c.in-Some.is at (c.in_ok-end.ensures.outline before.1 c.args.from before.0 before.2) in
    (omega (arith, before.0, ends.0), ends.1, outline)

pub returns : goal.returns
returns c = λ le.
    let len = length c.args.bytes.now in
    let before = c.sections.invariant le in
    elim c.sections-test.branch [
      | else-sections-test w ↦ rw w.entries-is (longer_outline c.args.from c.sections.at len c.sections.entries.items before.2 before.1)
      | then-sections-test+in_ok-end+in_default-2 w ↦
          (let o = w.in_ok-end.field-0 in
          let ends = at_most_the_end o c.sections.at len before.1 w.in_ok-end.ensures.ends in
          rw w.entries-is (longer_outline c.args.from (unwrap_or o len) len _
          (w.in_ok-end.ensures.outline before.1 c.args.from before.0 before.2) ends.1))
      | then-sections-test+in_ok-end+in_default w ↦
          (let o = w.in_ok-end.field-0 in
          let ends = at_most_the_end o c.sections.at len before.1 w.in_ok-end.ensures.ends in
          rw w.entries-is (longer_outline c.args.from (unwrap_or o len) len _
          (w.in_ok-end.ensures.outline before.1 c.args.from before.0 before.2) ends.1))
    ]
