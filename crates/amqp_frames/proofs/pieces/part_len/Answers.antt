use Rattle.std.proofs.Common.{refl, arith}
use Rattle.amqp_frames.proofs.TransferLemmas.{more_grows}
use Rattle.amqp_frames.proofs.pieces.part_len.Goals as goal

pub returns-in-Some-clause-part : goal.returns-in-Some-clause-part
returns-in-Some-clause-part c =
    let passes = c.in_ok-fits_one.ensures.passes c.if-branch.false in
    let room = rw c.in-Some.is at c.in_ok-room.ensures.ok in
    (refl, c.if-room-gt0.true, omega (arith, more_grows c.args.next.now), room, passes)
