use Rattle.amqp_annotations.specs.OwnedKeys.{owned_others}
use Rattle.amqp_annotations.proofs.owned_key.OwnedKeyKindSum.read_member.Goals as goal

pub returns-in-Symbol-clause-read : goal.returns-in-Symbol-clause-read
returns-in-Symbol-clause-read g c tells = rw c.in-Symbol.is (c.read_as.ensures.read tells)

pub returns-in_default-clause-read : goal.returns-in_default-clause-read
returns-in_default-clause-read g c tells = rw (owned_others _ c.in_default.not-Symbol) (c.read_as-in_default.ensures.read tells)
