use Rattle.amqp_nodes.proofs.FieldsMet.{field_met, omitted_met, no_fault}
use Rattle.amqp_nodes.proofs.laws.composite_fields.Goals as goal

pub returns-clause-found : goal.returns-clause-found
returns-clause-found c = field_met

pub returns-clause-omitted : goal.returns-clause-omitted
returns-clause-omitted c = omitted_met

pub returns-clause-told : goal.returns-clause-told
returns-clause-told c = no_fault
