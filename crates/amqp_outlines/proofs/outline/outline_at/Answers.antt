use Rattle.std.proofs.Common.{arith}
use Rattle.amqp_outlines.proofs.OutlineLemmas.{empty_outline}
use Rattle.amqp_outlines.proofs.outline.outline_at.Goals as goal

pub returns-clause-outline : goal.returns-clause-outline
returns-clause-outline c = λ le. c.in_ok-end.ensures.outline le c.args.at (omega arith) (rw c.new-entries.ensures.items (empty_outline c.args.at c.args.at))
