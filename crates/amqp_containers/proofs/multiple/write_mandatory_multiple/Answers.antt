use Rattle.std.proofs.Common.{rules}
use Rattle.amqp_model.specs.Term.{empty_multiple, barred}
use Rattle.amqp_containers.proofs.MultipleWrites.{array_written}
use Rattle.amqp_containers.proofs.multiple.write_mandatory_multiple.Goals as goal

pub returns : goal.returns
returns g c =
    array_written g.met.T.DeserializeTerm.agreement (barred empty_multiple) c.args.field.now.0.items (search rules) c.serialize.ensures
