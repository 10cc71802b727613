use Rattle.std.proofs.Common.{inr, refl, ◌∙◌, sym}
use Rattle.amqp_maps.proofs.Places.{known_there, unknown_there}
use Rattle.amqp_maps.proofs.read.make_room.Goals as goal

pub returns-then-is_some-clause-refused : goal.returns-then-is_some-clause-refused
returns-then-is_some-clause-refused g c =
    inr (
      refl,
      known_there (g.K.PartialEq.eq c.args.key.now) c.args.row.now.items c.place_in.result
          (rw c.as_slice.ensures.value at c.place_in.ensures) (sym c.is_some.ensures ∙ c.if-is_some.true),
    )

pub returns-clause-new : goal.returns-clause-new
returns-clause-new g c =
    unknown_there (g.K.PartialEq.eq c.args.key.now) c.args.row.now.items c.place_in.result
    (rw c.as_slice.ensures.value at c.place_in.ensures) (sym c.is_some.ensures ∙ c.if-is_some.false)
