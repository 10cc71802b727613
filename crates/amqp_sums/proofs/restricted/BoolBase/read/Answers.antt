use Rattle.std.proofs.Common.{false}
use Rattle.amqp_decoder.specs.Primitives.{ReadsValue, Means, PrimitiveFault}
use Rattle.amqp_decoder.proofs.Places.{answered_here}
use Rattle.amqp_codec.specs.PrimitiveTypes.{boolean_base}
use Rattle.amqp_sums.proofs.restricted.BoolBase.read.Goals as goal

pub returns-clause-read : goal.returns-clause-read
returns-clause-read g c tells =
    answered_here false (ReadsValue (Means boolean_base.make)) (PrimitiveFault boolean_base.kind) c.args.decoder.now c.read_bool.result c.read_bool.new.self
    (c.read_bool.ensures.read tells) c.read_bool.ensures.place
