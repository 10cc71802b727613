use Rattle.std.proofs.Common.{false}
use Rattle.amqp_decoder.specs.Primitives.{ReadsValue, Means, PrimitiveFault}
use Rattle.amqp_decoder.proofs.Places.{answered_here}
use Rattle.amqp_codec.specs.PrimitiveTypes.{ubyte_base}
use Rattle.amqp_sums.proofs.restricted.U8Base.read.Goals as goal

pub returns-clause-read : goal.returns-clause-read
returns-clause-read g c tells =
    answered_here false (ReadsValue (Means ubyte_base.make)) (PrimitiveFault ubyte_base.kind) c.args.decoder.now c.read_ubyte.result c.read_ubyte.new.self
    (c.read_ubyte.ensures.read tells) c.read_ubyte.ensures.place
