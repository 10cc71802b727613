use Rattle.amqp_outlines.proofs.outline.add_left_out.Goals as goal

pub omitted-preserved : goal.omitted-preserved
omitted-preserved c = λ l n os g. c.in_ok-add_omitted.ensures l n os (c.omitted.invariant l n os g)
