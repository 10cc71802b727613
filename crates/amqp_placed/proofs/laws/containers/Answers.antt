use Rattle.amqp_placed.proofs.Opening.{open_shown}
use Rattle.amqp_placed.proofs.Inside.{inside_shown}
use Rattle.amqp_placed.proofs.Ends.{closing_shown}
use Rattle.amqp_placed.proofs.laws.containers.Goals as goal

pub returns-clause-unopened : goal.returns-clause-unopened
returns-clause-unopened c = λ e kind other st f is. open_shown kind other st f

pub returns-clause-inside : goal.returns-clause-inside
returns-clause-inside c = inside_shown

pub returns-clause-unclosed : goal.returns-clause-unclosed
returns-clause-unclosed c = closing_shown
