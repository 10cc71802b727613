use Rattle.amqp_batches.proofs.NoSectionSteps.{not_begun, other, undescribed, unknown}
use Rattle.amqp_batches.proofs.not_section.no_section.Goals as goal

pub returns-in-Ok-begin_described-clause-read : goal.returns-in-Ok-begin_described-clause-read
returns-in-Ok-begin_described-clause-read g c tells =
    unknown _ _ _ _ _ _ _ (c.in-Ok-eq0.ensures.read tells) (c.in-Ok-begin_described.ensures.opened tells) c.refuse_at.ensures.first
    c.place-place.result c.refuse_at.ensures.place c.place-place.ensures

pub returns-in-Err-begin_described-clause-read : goal.returns-in-Err-begin_described-clause-read
returns-in-Err-begin_described-clause-read g c tells =
    undescribed _ _ _ _ _ _ (c.in-Ok-eq0.ensures.read tells) (c.in-Err-begin_described.ensures.opened tells)

pub returns-in-Ok-clause-read : goal.returns-in-Ok-clause-read
returns-in-Ok-clause-read g c tells =
    other _ _ _ _ _ (c.in-Ok.ensures.read tells) c.in-Ok._code-test.1 c.refuse.ensures.first c.refuse.ensures.place

pub returns-in-Err-clause-read : goal.returns-in-Err-clause-read
returns-in-Err-clause-read g c tells = not_begun _ _ _ (c.in-Err.ensures.read tells) c.in-Err.ensures.place
