use Rattle.std.proofs.Common.{subst}
use Rattle.amqp_decoder.specs.Rooms.{HasRoom}
use Rattle.amqp_decoder.proofs.Rows.{length-stack}
use Rattle.amqp_decoder.proofs.decoder.Decoder.room.Goals as goal

pub returns-clause-room : goal.returns-clause-room
returns-clause-room g c = subst HasRoom c.self.view_is (rw length-stack c.self.invariant.5)
