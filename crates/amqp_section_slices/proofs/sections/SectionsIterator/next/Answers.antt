use Rattle.std.proofs.Common.{refl, subst, arith}
use Rattle.amqp_section_slices.specs.Slices.{IsNoSection}
use Rattle.amqp_section_slices.proofs.sections.SectionsIterator.next.Goals as goal

pub returns-in-Err-clause-steps : goal.returns-in-Err-clause-steps
returns-in-Err-clause-steps c = (
  rw (← c.self.view_is) (subst (IsNoSection c.self.inside.rest.now c.in-Err.refusal.error) (omega arith) c.in-Err.ensures.refused),
  refl,
)
