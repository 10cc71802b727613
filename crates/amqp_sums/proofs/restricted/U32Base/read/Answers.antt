use Rattle.std.proofs.Common.{false}
use Rattle.amqp_decoder.specs.Primitives.{ReadsValue, Means, PrimitiveFault}
use Rattle.amqp_decoder.proofs.Places.{answered_here}
use Rattle.amqp_codec.specs.PrimitiveTypes.{uint_base}
use Rattle.amqp_sums.proofs.restricted.U32Base.read.Goals as goal

pub returns-clause-read : goal.returns-clause-read
returns-clause-read g c tells =
    answered_here false (ReadsValue (Means uint_base.make)) (PrimitiveFault uint_base.kind) c.args.decoder.now c.read_uint.result c.read_uint.new.self
    (c.read_uint.ensures.read tells) c.read_uint.ensures.place
