use Rattle.std.proofs.Common.{map, ap, ◌∙◌}
use Rattle.amqp_model.specs.Term.{list, code, container, described}
use Rattle.amqp_model.specs.Items.{terms_of}
use Rattle.amqp_lookahead.specs.Members.{descriptor_of}
use Rattle.amqp_values.specs.Values.{value_term}
use Rattle.amqp_values.specs.laws.Values.{list_is}
use Rattle.amqp_lifetimes.proofs.lifetime_values.empty_list.Goals as goal

pub returns-clause-value : goal.returns-clause-value
returns-clause-value c =
    ap (λ v. described (descriptor_of v.descriptor) (value_term v.value)) c.in_ok-new.ensures.ok
    ∙ ap (described (code c.args.code))
    (list_is c.new.result ∙ ap (λ vs. container list (terms_of (map value_term vs))) c.new.ensures.items)
