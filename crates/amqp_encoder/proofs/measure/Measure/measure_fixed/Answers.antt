use Rattle.std.proofs.Common.{◌≡◌, ◌-◌, length, drop, sym}
use Rattle.std.proofs.lemmas.List.{length-drop}
use Rattle.amqp_encoder.proofs.measure.Measure.measure_fixed.Goals as goal

pub returns-in-Later : goal.returns-in-Later
returns-in-Later c =
    let w = c.args.wide.now in
    let e : length w - 1 ≡ length (drop 1 w) = sym (length-drop 1 w) in
    rw (← c.self.view_is, c.in-Later.is) (rw (e, ← c.self.view_is, c.in-Later.is) at c.count_item-in-Later.ensures)
