use Rattle.amqp_errors.specs.Conditions.{listed_normal, custom_normal, amqp_error_found, connection_error_found, session_error_found}
use Rattle.amqp_errors.specs.Conditions.{link_error_found, transaction_error_found}
use Rattle.amqp_errors.specs.declared.error_condition.ErrorCondition.TheVariants as condition
use Rattle.amqp_errors.proofs.laws.normal_conditions.Goals as goal

pub returns-clause-amqp_errors : goal.returns-clause-amqp_errors
returns-clause-amqp_errors c = listed_normal condition.AmqpError amqp_error_found

pub returns-clause-connection_errors : goal.returns-clause-connection_errors
returns-clause-connection_errors c = listed_normal condition.ConnectionError connection_error_found

pub returns-clause-session_errors : goal.returns-clause-session_errors
returns-clause-session_errors c = listed_normal condition.SessionError session_error_found

pub returns-clause-link_errors : goal.returns-clause-link_errors
returns-clause-link_errors c = listed_normal condition.LinkError link_error_found

pub returns-clause-transaction_errors : goal.returns-clause-transaction_errors
returns-clause-transaction_errors c = listed_normal condition.TransactionError transaction_error_found

pub returns-clause-others : goal.returns-clause-others
returns-clause-others c = custom_normal
