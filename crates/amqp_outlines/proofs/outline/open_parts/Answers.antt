use Rattle.amqp_outlines.proofs.outline.open_parts.Goals as goal

pub returns : goal.returns
returns c = λ l n es g h. rw c.in_ok-push.ensures.items h
