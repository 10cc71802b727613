use Rattle.amqp_nodes.proofs.Walking.{parts_stand, others_stand, once_met}
use Rattle.amqp_nodes.proofs.laws.walks.Goals as goal

pub returns-clause-first : goal.returns-clause-first
returns-clause-first c = parts_stand

pub returns-clause-further : goal.returns-clause-further
returns-clause-further c = others_stand

pub returns-clause-once : goal.returns-clause-once
returns-clause-once c = once_met
