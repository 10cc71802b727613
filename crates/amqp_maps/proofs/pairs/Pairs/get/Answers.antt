use Rattle.std.proofs.Common.{sym, ap, ◌∙◌}
use Rattle.std.specs.Option.{option_copied}
use Rattle.amqp_maps.proofs.Places.{value_at, no_value}
use Rattle.amqp_maps.proofs.pairs.Pairs.get.Goals as goal

pub returns-in_err-place-in-Row : goal.returns-in_err-place-in-Row
returns-in_err-place-in-Row g c =
    rw c.in-Row.is
    (ap option_copied c.from_residual.ensures
    ∙ no_value (g.K.PartialEq.eq c.args.key.now) c.in-Row.row.items
    (sym (rw c.as_slice.ensures.value at c.place_in.ensures) ∙ c.in_err-place-in-Row.was))

pub returns-in_ok-place-in-Row : goal.returns-in_ok-place-in-Row
returns-in_ok-place-in-Row g c =
    rw c.in-Row.is
    (value_at (g.K.PartialEq.eq c.args.key.now) c.in-Row.row.items c.in_ok-place-in-Row.place c.index.result.now
    (sym (rw c.as_slice.ensures.value at c.place_in.ensures) ∙ c.in_ok-place-in-Row.was) c.index.ensures)
