use Rattle.std.proofs.Common.{refl}
use Rattle.amqp_decoder.specs.State.{greatest}
use Rattle.amqp_placed.proofs.Onward.{shown_stands}
use Rattle.amqp_placed.proofs.Limits.{fault_without, place_is}
use Rattle.amqp_placed.proofs.laws.shown_faults_stand.Goals as goal

pub returns-clause-unlimited : goal.returns-clause-unlimited
returns-clause-unlimited c = λ _ e shown limits input at greatest (left, fault, sum).
    shown_stands limits input e at left greatest (shown _ _ refl fault) sum

pub returns-clause-limited : goal.returns-clause-limited
returns-clause-limited c = λ _ e other shown limits input at (left, fault, sum).
    shown_stands greatest input e at left (refl, refl, refl)
    (shown _ _ refl (fault_without c.T.DeserializeTerm.term.faults limits input _ other fault)) sum

pub returns-clause-read : goal.returns-clause-read
returns-clause-read c = λ _ e other shown limits input at few short (left, fault, sum).
    shown_stands greatest input e at left (refl, refl, refl)
    (shown _ _ refl (fault_without c.T.DeserializeTerm.term.faults limits input _ other fault))
    (place_is at left _ few short (c.T.DeserializeTerm.term.faults.within _ _ fault) sum)
