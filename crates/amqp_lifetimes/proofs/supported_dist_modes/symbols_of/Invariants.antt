use Rattle.std.proofs.Common.{◌≡◌, map, take}
use Rattle.amqp_values.specs.Values.{value_term}
use Rattle.amqp_lifetimes.specs.Properties.{mode_term}
use Rattle.amqp_lifetimes.proofs.supported_dist_modes.symbols_of.Given as goal

abbrev pub invariant-loop-mode : goal.invariant-loop-mode
invariant-loop-mode l = map value_term l.symbols.0.items ≡ map mode_term (take l.mode-index l.modes)
