use Rattle.std.proofs.Common.{false}
use Rattle.amqp_decoder.specs.Primitives.{ReadsValue, Means, PrimitiveFault}
use Rattle.amqp_decoder.proofs.Places.{answered_here}
use Rattle.amqp_codec.specs.PrimitiveTypes.{ushort_base}
use Rattle.amqp_sums.proofs.restricted.U16Base.read.Goals as goal

pub returns-clause-read : goal.returns-clause-read
returns-clause-read g c tells =
    answered_here false (ReadsValue (Means ushort_base.make)) (PrimitiveFault ushort_base.kind) c.args.decoder.now c.read_ushort.result c.read_ushort.new.self
    (c.read_ushort.ensures.read tells) c.read_ushort.ensures.place
