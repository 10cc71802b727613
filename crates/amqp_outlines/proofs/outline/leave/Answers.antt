use Rattle.amqp_outlines.proofs.OutlineLemmas.{left}
use Rattle.amqp_outlines.proofs.outline.leave.Goals as goal

pub returns : goal.returns
returns c = λ l n os g. left l n c.add_left_out.new.entries.items os c.args.around.now (c.in_ok-add_left_out.ensures l n os g)
