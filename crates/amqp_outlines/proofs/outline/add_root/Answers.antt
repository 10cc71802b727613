use Rattle.std.proofs.Common.{length}
use Rattle.amqp_outlines.proofs.OutlineLemmas.{ended, ended_within}
use Rattle.amqp_outlines.proofs.outline.add_root.Goals as goal

pub returns-clause-outline : goal.returns-clause-outline
returns-clause-outline c = λ le l low h.
    ended l c.end.result c.args.root.now.node.end (length c.args.input.now) c.add_values.new.entries.items c.end.ensures
    (c.in_ok-add_values.ensures l low h) le

pub returns-clause-ends : goal.returns-clause-ends
returns-clause-ends c = λ moves le.
    ended_within c.end.result c.args.root.now.from c.args.root.now.node.end (length c.args.input.now) c.end.ensures moves le
