use Rattle.amqp_outlines.proofs.outline.enter.Goals as goal

pub returns-in-Some : goal.returns-in-Some
returns-in-Some c = λ l n g m. c.enter_shown.ensures l n g m
