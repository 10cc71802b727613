use Rattle.amqp_lines.proofs.Progress.{begun, one_more, ended}
use Rattle.amqp_lines.proofs.engine.run.Goals as goal

pub loop-answered-init : goal.loop-answered-init
loop-answered-init g c =
    begun c.greatest-limits.result _ _ _ (c.greatest-limits.ensures.nesting, c.greatest-limits.ensures.bytes, c.greatest-limits.ensures.items)
    c.greatest-limits.ensures.seed (rw c.new.ensures.reader at c.new-lines.ensures)

pub returns-in_default-clause-answers : goal.returns-in_default-clause-answers
returns-in_default-clause-answers g c =
    ended (λ v. v.items) _ _ _ _ _ _ _ _ _ _ c.in_default.is c.loop-answered.invariant c.in_ok-line.ensures.line c.in_ok-flush.ensures.kept

pub loop-answered-preserved : goal.loop-answered-preserved
loop-answered-preserved g c =
    one_more (λ v. v.items) _ _ _ _ _ _ _ _ _ c.in-Some.line _ _ _ c.in-Some.is c.loop-answered.invariant c.in_ok-line.ensures.line
    (rw c.as_slice.ensures.value at c.in_ok-all_ok.ensures.answer)
