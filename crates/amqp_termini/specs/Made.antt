-- Termini that calls make, and the member that a target is.
use Rattle.std.specs.Prelude.{Option, Some, None, false, String}
use Rattle.std.specs.declared.alloc.Global.{Global}
use Rattle.amqp_restricted_types.specs.declared.terminus_durability.TerminusDurability.TheVariants as durability
use Rattle.amqp_restricted_types.specs.declared.terminus_expiry_policy.TerminusExpiryPolicy.TheVariants as policy
use Rattle.amqp_termini.specs.declared.source.Source.{Source}
use Rattle.amqp_termini.specs.declared.target.Target.{Target}
use Rattle.amqp_termini.specs.declared.coordinator.Coordinator.{Coordinator}
use Rattle.amqp_termini.specs.declared.target_archetype.TargetArchetype.{TargetArchetype}
use Rattle.amqp_termini.specs.declared.target_archetype.TargetArchetype.TheVariants as archetype

-- The source in which every field is left out.
abbrev pub default_source : Source
default_source = record {
  address = None;
  durable = durability.None;
  expiry_policy = policy.SessionEnd;
  timeout = 0;
  dynamic = false;
  dynamic_node_properties = None;
  distribution_mode = None;
  filter = None;
  default_outcome = None;
  outcomes = None;
  capabilities = None;
}

-- The target in which every field is left out.
abbrev pub default_target : Target
default_target = record {
  address = None;
  durable = durability.None;
  expiry_policy = policy.SessionEnd;
  timeout = 0;
  dynamic = false;
  dynamic_node_properties = None;
  capabilities = None;
}

abbrev pub source_at : String Global → Source
source_at address = record default_source { address = Some address }

abbrev pub target_at : String Global → Target
target_at address = record default_target { address = Some address }

abbrev pub archetype_target : TargetArchetype → Option Target
archetype_target (archetype.Target v) = Some v
archetype_target _ = None

abbrev pub archetype_coordinator : TargetArchetype → Option Coordinator
archetype_coordinator (archetype.Coordinator v) = Some v
archetype_coordinator _ = None
