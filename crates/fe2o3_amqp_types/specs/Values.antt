-- Values of any kind as terms, what they are built of, how they compare and what is made of them. It defines nothing.
pub use Rattle.amqp_values.specs.Values.{value_term, pairs_of}
pub use Rattle.amqp_values.specs.Canon.{value_canon}
pub use Rattle.amqp_values.specs.Equality.{value_eq, map_eq}
pub use Rattle.amqp_values.specs.Order.{value_cmp, map_cmp}
pub use Rattle.amqp_values.specs.Hashed.{value_fed, map_fed}
pub use Rattle.amqp_values.specs.Typing.{IsTyped}
pub use Rattle.amqp_values.specs.Taken.{TakesOut}
pub use Rattle.amqp_values.specs.FormatCodes.{format_code}
pub use Rattle.amqp_values.specs.Maps.{HaveDistinctKeys, pairs_left, values_left}
pub use Rattle.amqp_simple_values.specs.Simple.{simple_term, as_value, Simplifies}
pub use Rattle.amqp_simple_values.specs.Equality.{simple_eq}
pub use Rattle.amqp_simple_values.specs.Order.{simple_cmp, simple_fed}
pub use Rattle.amqp_described.specs.DescribedType.{pair_of}
pub use Rattle.amqp_lazy.specs.LazyType.{lazy_bytes}
pub use Rattle.amqp_restricted_types.specs.Orders.{role_place, txn_capability_place}
pub use Rattle.amqp_delivery.specs.Members.{state_received, state_accepted, state_rejected, state_released, state_modified, state_declared}
pub use Rattle.amqp_delivery.specs.Members.{outcome_accepted, outcome_rejected, outcome_released, outcome_modified, outcome_declared}
pub use Rattle.amqp_delivery.specs.Members.{is_terminal, as_state}
pub use Rattle.amqp_lifetimes.specs.Properties.{Inserts, InsertsLifetime, InsertsModes, with_pair, empty_list_of, lifetime_term, mode_term}
pub use Rattle.amqp_lifetimes.specs.Properties.{modes_term, filter_term}
pub use Rattle.amqp_termini.specs.Made.{default_source, default_target, source_at, target_at, archetype_target, archetype_coordinator}
