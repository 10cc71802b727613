use Rattle.std.proofs.Common.{rules}
use Rattle.amqp_model.specs.Term.{null, leaf}
use Rattle.amqp_containers.proofs.MultipleWrites.{array_written}
use Rattle.amqp_containers.proofs.multiple.write_multiple.Goals as goal

pub returns-in-Some : goal.returns-in-Some
returns-in-Some g c =
    rw c.in-Some.is
    (array_written g.met.T.DeserializeTerm.agreement (leaf null) c.in-Some.items.0.items (search rules) c.serialize.ensures)
