-- A section that comes next is of one of the seven kinds.
use Rattle.std.proofs.Common.{◌≡◌, ℕ, zero, suc, true, List, All, refl, arith}
use Rattle.std.proofs.lemmas.List.Elements.{All-contains}
use Rattle.amqp_lookahead.specs.Sections.{IsSectionAhead, sections}
use Rattle.amqp_messages.specs.KindsReading.{has}
use Rattle.amqp_messages.specs.MessageKinds.{seven}

each_has : All (λ (r : ℕ × List ℕ). has (seven (Unit {0})) r.0 ≡ true) sections
each_has zero d h = refl
each_has (suc zero) d h = refl
each_has (suc (suc zero)) d h = refl
each_has (suc (suc (suc zero))) d h = refl
each_has (suc (suc (suc (suc zero)))) d h = refl
each_has (suc (suc (suc (suc (suc zero))))) d h = refl
each_has (suc (suc (suc (suc (suc (suc zero)))))) d h = refl
each_has (suc (suc (suc (suc (suc (suc (suc zero))))))) d h = refl
each_has (suc (suc (suc (suc (suc (suc (suc (suc zero)))))))) d h = refl
each_has (suc (suc (suc (suc (suc (suc (suc (suc (suc k))))))))) d h = absurd (omega (arith, h))

pub has_ahead : (rest : List ℕ) (c : ℕ) → IsSectionAhead rest c → has (seven (Unit {0})) c ≡ true
has_ahead rest c h = All-contains (λ (r : ℕ × List ℕ). has (seven (Unit {0})) r.0 ≡ true) sections (c, h.is.0) each_has h.is.1
