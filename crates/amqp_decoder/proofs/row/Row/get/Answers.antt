use Rattle.std.proofs.Common.{refl}
use Rattle.amqp_decoder.specs.declared.row.Kind.TheVariants.{Top}
use Rattle.amqp_decoder.proofs.RowParts.{get_or-joined}
use Rattle.amqp_decoder.proofs.row.Row.get.Goals as goal

pub returns : goal.returns
returns c =
    let r = c.self.inside in
    let (a, b, d, e, f, g) = c.self.invariant in
    let at = get_or-joined 129 r.items r.left r.kinds r.codes r.first r.last Top c.args.at a b d e f g c.requires in
    rw (← c.self.view_is, at, c.bound.ensures, c.parts-place.ensures.0, c.parts-place.ensures.1) refl
