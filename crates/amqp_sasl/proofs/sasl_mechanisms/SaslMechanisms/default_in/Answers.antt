use Rattle.std.proofs.Common.{ℕ, List, [], ◌∷◌, ap}
use Rattle.amqp_sasl.proofs.sasl_mechanisms.SaslMechanisms.default_in.Goals as goal

pub returns-clause-anonymous : goal.returns-clause-anonymous
returns-clause-anonymous c =
    rw (c.in_ok-push.ensures.added, c.from-mechanisms.ensures, c.new.ensures.items)
    (ap (λ (text : List ℕ). text ∷ []) c.in_ok-anonymous.ensures)
