-- The tables of sources and targets (Part 3, section 3.5) and of coordinators (Part 4, section 4.5.1).
use Rattle.std.specs.Prelude.{option_map}
use Rattle.amqp_model.specs.FieldType.{normal}
use Rattle.amqp_sums.specs.Types.{inl, inr, codes, refl, by_norm, TermType, boolean_type, uint_type, string_type, symbol_type}
use Rattle.amqp_sums.specs.Types.{optional, default, none, field, ◌▸◌, Table}
use Rattle.amqp_sums.specs.Types.{Choices, no_more, member, Chosen, SumOf, sum_of}
use Rattle.amqp_containers.specs.MultipleFields.{multiple, normal_multiple}
use Rattle.amqp_restricted_types.specs.Defaults.{false_by_default}
use Rattle.amqp_restricted_types.specs.Termini.{terminus_durability_type, terminus_expiry_policy_type, distribution_mode_type}
use Rattle.amqp_restricted_types.specs.TerminiDefaults.{not_durable_by_default, session_end_by_default, zero_by_default}
use Rattle.amqp_restricted_types.specs.Transactions.{txn_capability_type}
use Rattle.amqp_errors.specs.FieldsType.{fields_type}
use Rattle.amqp_delivery.specs.Tables.{outcome}
use Rattle.amqp_termini.specs.declared.source.Source.{Source}
use Rattle.amqp_termini.specs.declared.target.Target.{Target}
use Rattle.amqp_termini.specs.declared.coordinator.Coordinator.{Coordinator}
use Rattle.amqp_termini.specs.declared.target_archetype.TargetArchetype.{TargetArchetype}
use Rattle.amqp_termini.specs.declared.target_archetype.TargetArchetype.TheVariants as archetype

abbrev pub norm_source : Source → Source
norm_source v = record v {
  default_outcome = option_map (normal outcome.norm) v.default_outcome;
  outcomes = normal_multiple symbol_type refl v.outcomes;
  capabilities = normal_multiple symbol_type refl v.capabilities;
}

-- Part 3, section 3.5.3
abbrev pub source : Table Source
source = record {
  code = 0x28;
  name = codes "amqp:source:list";
  fields =
      field (λ v. v.address) (optional string_type refl refl)
      ▸ field (λ v. v.durable) (default terminus_durability_type refl refl not_durable_by_default)
      ▸ field (λ v. v.expiry_policy) (default terminus_expiry_policy_type refl refl session_end_by_default)
      ▸ field (λ v. v.timeout) (default uint_type refl refl zero_by_default)
      ▸ field (λ v. v.dynamic) (default boolean_type refl refl false_by_default)
      ▸ field (λ v. v.dynamic_node_properties) (optional fields_type refl refl)
      ▸ field (λ v. v.distribution_mode) (optional distribution_mode_type refl refl)
      ▸ field (λ v. v.filter) (optional fields_type refl refl)
      ▸ field (λ v. v.default_outcome) (optional outcome refl refl)
      ▸ field (λ v. v.outcomes) (multiple symbol_type refl refl (λ v. tt))
      ▸ field (λ v. v.capabilities) (multiple symbol_type refl refl (λ v. tt))
      ▸ none;
  norm = by_norm norm_source;
  norm_is = λ v. (refl, (refl, (refl, (refl, (refl, (refl, (refl, (refl, (refl, (refl, (refl, tt)))))))))));
  is_small = refl;
}

abbrev pub norm_target : Target → Target
norm_target v = record v { capabilities = normal_multiple symbol_type refl v.capabilities }

-- Part 3, section 3.5.4
abbrev pub target : Table Target
target = record {
  code = 0x29;
  name = codes "amqp:target:list";
  fields =
      field (λ v. v.address) (optional string_type refl refl)
      ▸ field (λ v. v.durable) (default terminus_durability_type refl refl not_durable_by_default)
      ▸ field (λ v. v.expiry_policy) (default terminus_expiry_policy_type refl refl session_end_by_default)
      ▸ field (λ v. v.timeout) (default uint_type refl refl zero_by_default)
      ▸ field (λ v. v.dynamic) (default boolean_type refl refl false_by_default)
      ▸ field (λ v. v.dynamic_node_properties) (optional fields_type refl refl)
      ▸ field (λ v. v.capabilities) (multiple symbol_type refl refl (λ v. tt))
      ▸ none;
  norm = by_norm norm_target;
  norm_is = λ v. (refl, (refl, (refl, (refl, (refl, (refl, (refl, tt)))))));
  is_small = refl;
}

abbrev pub norm_coordinator : Coordinator → Coordinator
norm_coordinator v = record v { capabilities = normal_multiple txn_capability_type refl v.capabilities }

-- Part 4, section 4.5.1
abbrev pub coordinator : Table Coordinator
coordinator = record {
  code = 0x30;
  name = codes "amqp:coordinator:list";
  fields =
      field (λ v. v.capabilities) (multiple txn_capability_type refl refl (λ v. tt))
      ▸ none;
  norm = by_norm norm_coordinator;
  norm_is = λ v. (refl, tt);
  is_small = refl;
}

-- The kinds of target in their order, and the one that a value is.
abbrev pub archetypes : Choices TargetArchetype
archetypes =
    member target archetype.Target
    (member coordinator archetype.Coordinator
    no_more)

abbrev pub archetype_of : (v : TargetArchetype) → Chosen archetypes v
archetype_of (archetype.Target v) = (inl v, refl)
archetype_of (archetype.Coordinator v) = (inr (inl v), refl)

-- Part 2, section 2.7.3, and Part 4, section 4.5.1: what stands in the target of an attach
abbrev pub target_archetypes : SumOf TargetArchetype
target_archetypes = record { choices = archetypes; choice = archetype_of; apart = refl; chosen = (λ v. refl, (λ v. refl, tt)) }

abbrev pub target_archetype : TermType TargetArchetype
target_archetype = sum_of target_archetypes
