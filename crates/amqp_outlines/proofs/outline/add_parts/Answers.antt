use Rattle.amqp_outlines.proofs.outline.add_parts.Goals as goal

pub values-preserved : goal.values-preserved
values-preserved c = λ l n g. c.in_ok-step.ensures l n (c.values.invariant l n g)
