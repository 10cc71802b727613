use Rattle.amqp_outlines.proofs.OutlineLemmas.{left}
use Rattle.amqp_outlines.proofs.outline.step_in.Goals as goal

pub returns-in-Nothing : goal.returns-in-Nothing
returns-in-Nothing c = λ l n g. left l n c.args.entries.now.items c.args.opened.now.items c.args.around g

pub returns-in-End : goal.returns-in-End
returns-in-End c = λ l n g. c.leave.ensures l n c.args.opened.now.items g

pub returns-in-Part : goal.returns-in-Part
returns-in-Part c = λ l n g. c.meet.ensures l n g
