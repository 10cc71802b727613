use Rattle.std.proofs.Common.{refl}
use Rattle.amqp_termini.specs.declared.target_archetype.TargetArchetype.TheVariants as archetype
use Rattle.amqp_termini.proofs.target_archetype.TargetArchetypeSerialize.serialize.Goals as goal

pub returns-in-Target : goal.returns-in-Target
returns-in-Target g c = c.write_as.ensures.written (archetype.Target c.in-Target.target) c.in-Target.is refl

pub returns-in-Coordinator : goal.returns-in-Coordinator
returns-in-Coordinator g c =
    c.write_as-in-Coordinator.ensures.written (archetype.Coordinator c.in-Coordinator.coordinator) c.in-Coordinator.is refl
