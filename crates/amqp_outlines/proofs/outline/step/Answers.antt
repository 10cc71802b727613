use Rattle.std.proofs.Common.{◌∙◌, append-nil}
use Rattle.amqp_outlines.proofs.outline.step.Goals as goal

pub returns-in-None : goal.returns-in-None
returns-in-None c = λ l n g. rw (c.in-None.ensures.items ∙ append-nil c.pop.new.self.items) at g

pub returns-in-Some : goal.returns-in-Some
returns-in-Some c = λ l n g. c.step_in.ensures l n (rw c.in-Some.ensures.items at g)
