use Rattle.amqp_lines.proofs.Progress.{Progress}
use Rattle.amqp_lines.proofs.engine.run.Given as goal

abbrev pub invariant-loop-answered : goal.invariant-loop-answered
invariant-loop-answered g l = Progress l.limits (g.R.Read.remaining l.fn.reader) l.lines (g.W.Write.contents l.fn.writer)
    (g.W.Write.contents l.writer) l.answered l.all_ok
