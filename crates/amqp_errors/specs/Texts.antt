-- The texts of the errors (Part 2, sections 2.8.15 to 2.8.18; Part 4, section 4.5.8), which are symbols.
use Rattle.std.proofs.Common.{ℕ, List, codes}
use Rattle.amqp_errors.specs.declared.amqp_error.AmqpError.{AmqpError}
use Rattle.amqp_errors.specs.declared.amqp_error.AmqpError.TheVariants as amqp
use Rattle.amqp_errors.specs.declared.connection_error.ConnectionError.{ConnectionError}
use Rattle.amqp_errors.specs.declared.connection_error.ConnectionError.TheVariants as connection
use Rattle.amqp_errors.specs.declared.session_error.SessionError.{SessionError}
use Rattle.amqp_errors.specs.declared.session_error.SessionError.TheVariants as session
use Rattle.amqp_errors.specs.declared.link_error.LinkError.{LinkError}
use Rattle.amqp_errors.specs.declared.link_error.LinkError.TheVariants as link
use Rattle.amqp_errors.specs.declared.transaction_error.TransactionError.{TransactionError}
use Rattle.amqp_errors.specs.declared.transaction_error.TransactionError.TheVariants as transaction

-- Part 2, section 2.8.15
abbrev pub amqp_error_texts : AmqpError → List ℕ
amqp_error_texts amqp.InternalError = codes "amqp:internal-error"
amqp_error_texts amqp.NotFound = codes "amqp:not-found"
amqp_error_texts amqp.UnauthorizedAccess = codes "amqp:unauthorized-access"
amqp_error_texts amqp.DecodeError = codes "amqp:decode-error"
amqp_error_texts amqp.ResourceLimitExceeded = codes "amqp:resource-limit-exceeded"
amqp_error_texts amqp.NotAllowed = codes "amqp:not-allowed"
amqp_error_texts amqp.InvalidField = codes "amqp:invalid-field"
amqp_error_texts amqp.NotImplemented = codes "amqp:not-implemented"
amqp_error_texts amqp.ResourceLocked = codes "amqp:resource-locked"
amqp_error_texts amqp.PreconditionFailed = codes "amqp:precondition-failed"
amqp_error_texts amqp.ResourceDeleted = codes "amqp:resource-deleted"
amqp_error_texts amqp.IllegalState = codes "amqp:illegal-state"
amqp_error_texts amqp.FrameSizeTooSmall = codes "amqp:frame-size-too-small"

-- Part 2, section 2.8.16
abbrev pub connection_error_texts : ConnectionError → List ℕ
connection_error_texts connection.ConnectionForced = codes "amqp:connection:forced"
connection_error_texts connection.FramingError = codes "amqp:connection:framing-error"
connection_error_texts connection.Redirect = codes "amqp:connection:redirect"

-- Part 2, section 2.8.17
abbrev pub session_error_texts : SessionError → List ℕ
session_error_texts session.WindowViolation = codes "amqp:session:window-violation"
session_error_texts session.ErrantLink = codes "amqp:session:errant-link"
session_error_texts session.HandleInUse = codes "amqp:session:handle-in-use"
session_error_texts session.UnattachedHandle = codes "amqp:session:unattached-handle"

-- Part 2, section 2.8.18
abbrev pub link_error_texts : LinkError → List ℕ
link_error_texts link.DetachForced = codes "amqp:link:detach-forced"
link_error_texts link.TransferLimitExceeded = codes "amqp:link:transfer-limit-exceeded"
link_error_texts link.MessageSizeExceeded = codes "amqp:link:message-size-exceeded"
link_error_texts link.Redirect = codes "amqp:link:redirect"
link_error_texts link.Stolen = codes "amqp:link:stolen"

-- Part 4, section 4.5.8
abbrev pub transaction_error_texts : TransactionError → List ℕ
transaction_error_texts transaction.UnknownId = codes "amqp:transaction:unknown-id"
transaction_error_texts transaction.Rollback = codes "amqp:transaction:rollback"
transaction_error_texts transaction.Timeout = codes "amqp:transaction:timeout"
