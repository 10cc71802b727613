use Rattle.amqp_performatives.specs.Tables.{opening, begin, flow, transfer, disposition, detach, ending, close}
use Rattle.amqp_placed.proofs.Composites.{composite_shown}
use Rattle.amqp_placed.proofs.Performatives.{error_shown, state_shown, outcome_shown, open_fields, begin_fields, flow_fields}
use Rattle.amqp_placed.proofs.Performatives.{transfer_fields}
use Rattle.amqp_placed.proofs.Performatives.{disposition_fields, detach_fields, end_fields, close_fields}
use Rattle.amqp_placed.proofs.Attaching.{attach_shown, performative_shown, source_shown, target_shown, coordinator_shown, lifetime_shown}
use Rattle.amqp_placed.proofs.Attaching.{archetype_shown}
use Rattle.amqp_placed.proofs.laws.performatives.Goals as goal

pub returns-clause-error : goal.returns-clause-error
returns-clause-error c = error_shown

pub returns-clause-state : goal.returns-clause-state
returns-clause-state c = state_shown

pub returns-clause-outcome : goal.returns-clause-outcome
returns-clause-outcome c = outcome_shown

pub returns-clause-opening : goal.returns-clause-opening
returns-clause-opening c = λ e new. composite_shown e opening (open_fields e new)

pub returns-clause-beginning : goal.returns-clause-beginning
returns-clause-beginning c = λ e new. composite_shown e begin (begin_fields e new)

pub returns-clause-flow : goal.returns-clause-flow
returns-clause-flow c = λ e new. composite_shown e flow (flow_fields e new)

pub returns-clause-transfer : goal.returns-clause-transfer
returns-clause-transfer c = λ e new. composite_shown e transfer (transfer_fields e new)

pub returns-clause-disposition : goal.returns-clause-disposition
returns-clause-disposition c = λ e new. composite_shown e disposition (disposition_fields e new)

pub returns-clause-detach : goal.returns-clause-detach
returns-clause-detach c = λ e new. composite_shown e detach (detach_fields e new)

pub returns-clause-ending : goal.returns-clause-ending
returns-clause-ending c = λ e new. composite_shown e ending (end_fields e new)

pub returns-clause-closing : goal.returns-clause-closing
returns-clause-closing c = λ e new. composite_shown e close (close_fields e new)

pub returns-clause-attach : goal.returns-clause-attach
returns-clause-attach c = attach_shown

pub returns-clause-performative : goal.returns-clause-performative
returns-clause-performative c = performative_shown

pub returns-clause-source : goal.returns-clause-source
returns-clause-source c = source_shown

pub returns-clause-target : goal.returns-clause-target
returns-clause-target c = target_shown

pub returns-clause-coordinator : goal.returns-clause-coordinator
returns-clause-coordinator c = coordinator_shown

pub returns-clause-lifetime : goal.returns-clause-lifetime
returns-clause-lifetime c = lifetime_shown

pub returns-clause-archetype : goal.returns-clause-archetype
returns-clause-archetype c = archetype_shown
