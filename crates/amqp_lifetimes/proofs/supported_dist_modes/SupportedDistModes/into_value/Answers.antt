use Rattle.std.proofs.Common.{◌≡◌, map, ap, ◌∙◌}
use Rattle.amqp_model.specs.Term.{array, container}
use Rattle.amqp_model.specs.Items.{terms_of}
use Rattle.amqp_values.specs.laws.Values.{array_is}
use Rattle.amqp_lifetimes.specs.Properties.{mode_term}
use Rattle.amqp_lifetimes.proofs.supported_dist_modes.SupportedDistModes.into_value.Goals as goal

pub returns-clause-value : goal.returns-clause-value
returns-clause-value c =
    let slice_is : c.as_slice.result.now ≡ c.args.self.0.items = cc in
    array_is c.in_ok-symbols_of.field-0
    ∙ ap (λ ts. container array (terms_of ts)) (c.in_ok-symbols_of.ensures.symbols ∙ ap (map mode_term) slice_is)
