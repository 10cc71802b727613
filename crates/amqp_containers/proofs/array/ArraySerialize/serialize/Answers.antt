use Rattle.std.proofs.lemmas.Result.{err_from_is_err_and}
use Rattle.std.specs.List.{flat_map}
use Rattle.amqp_model.specs.Term.{array}
use Rattle.amqp_codec.proofs.Joining.{container_wraps, open_refused, inner_refused, all_written}
use Rattle.amqp_containers.proofs.array.ArraySerialize.serialize.Goals as goal

pub returns-in_err-begin_array : goal.returns-in_err-begin_array
returns-in_err-begin_array g c =
    open_refused (container_wraps array (flat_map g.T.Serialize.writing.canons c.args.self.now.0.items)) _ _ _ _ _
    c.in_err-begin_array.was (err_from_is_err_and c.from_residual.result c.from_residual.ensures.1) c.begin_array.ensures

pub returns-in_err-write_each : goal.returns-in_err-write_each
returns-in_err-write_each g c =
    inner_refused (container_wraps array (flat_map g.T.Serialize.writing.canons c.args.self.now.0.items)) _ _ _ _ _ _ _
    c.in_ok-begin_array.was c.in_err-write_each.was
    (err_from_is_err_and c.from_residual-in_err-write_each.result c.from_residual-in_err-write_each.ensures.1) c.begin_array.ensures
    (rw c.as_slice.ensures.value at c.write_each.ensures)

pub returns : goal.returns
returns g c =
    all_written (container_wraps array (flat_map g.T.Serialize.writing.canons c.args.self.now.0.items)) _ _ _ _ _ _ _
    c.in_ok-begin_array.was c.in_ok-write_each.was c.begin_array.ensures (rw c.as_slice.ensures.value at c.write_each.ensures)
    c.end_array.ensures
