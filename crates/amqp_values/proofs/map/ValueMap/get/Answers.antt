use Rattle.std.proofs.Common.{sym, ap, ◌∙◌}
use Rattle.std.specs.Option.{option_copied}
use Rattle.amqp_values.specs.Equality.{value_eq}
use Rattle.amqp_values.specs.Values.{pairs_of}
use Rattle.amqp_values.proofs.Places.{value_at, no_value}
use Rattle.amqp_values.proofs.map.ValueMap.get.Goals as goal

pub returns-in_err-index : goal.returns-in_err-index
returns-in_err-index c =
    ap option_copied c.from_residual.ensures
    ∙ no_value (value_eq c.args.key.now) (pairs_of c.args.self.now)
    (sym (rw c.as_slice.ensures.value at c.place_of.ensures) ∙ c.in_err-index.was)

pub returns : goal.returns
returns c =
    value_at (value_eq c.args.key.now) (pairs_of c.args.self.now) c.in_ok-index.index c.index.result.now
    (sym (rw c.as_slice.ensures.value at c.place_of.ensures) ∙ c.in_ok-index.was) c.index.ensures
