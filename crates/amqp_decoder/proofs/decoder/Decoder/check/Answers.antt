use Rattle.std.proofs.Common.{subst}
use Rattle.amqp_decoder.specs.Rooms.{HasRoom}
use Rattle.amqp_decoder.proofs.Rows.{length-stack}
use Rattle.amqp_decoder.proofs.decoder.Decoder.check.Goals as goal

pub returns-in-Some-clause-room : goal.returns-in-Some-clause-room
returns-in-Some-clause-room g c = subst HasRoom c.self.view_is (rw length-stack c.self.invariant.5)

pub returns-in-None-clause-room : goal.returns-in-None-clause-room
returns-in-None-clause-room g c = subst HasRoom c.self.view_is (rw length-stack c.self.invariant.5)
