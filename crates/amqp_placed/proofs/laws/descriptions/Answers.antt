use Rattle.amqp_placed.proofs.Descriptions.{unopened_shown, no_member_shown, described_shown}
use Rattle.amqp_placed.proofs.laws.descriptions.Goals as goal

pub returns-clause-unopened : goal.returns-clause-unopened
returns-clause-unopened c = λ e st f is. unopened_shown st f

pub returns-clause-no_member : goal.returns-clause-no_member
returns-clause-no_member c = λ e members st f is. no_member_shown members st f

pub returns-clause-inside : goal.returns-clause-inside
returns-clause-inside c = described_shown
