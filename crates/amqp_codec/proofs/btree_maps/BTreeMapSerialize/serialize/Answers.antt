use Rattle.std.proofs.lemmas.Result.{err_from_is_err_and}
use Rattle.amqp_model.specs.Term.{map}
use Rattle.amqp_codec.specs.MapWriting.{turn_terms}
use Rattle.amqp_codec.proofs.Joining.{container_wraps, open_refused, inner_refused, all_written}
use Rattle.amqp_codec.proofs.btree_maps.BTreeMapSerialize.serialize.Goals as goal

pub returns-in_err-begin_map : goal.returns-in_err-begin_map
returns-in_err-begin_map g c =
    open_refused (container_wraps map (turn_terms g.K.Serialize.writing g.V.Serialize.writing c.args.self.now.entries)) _ _ _ _ _
    c.in_err-begin_map.was (err_from_is_err_and c.from_residual.result c.from_residual.ensures.1) c.begin_map.ensures

pub returns-in_err-write_in_order : goal.returns-in_err-write_in_order
returns-in_err-write_in_order g c =
    inner_refused (container_wraps map (turn_terms g.K.Serialize.writing g.V.Serialize.writing c.args.self.now.entries)) _ _ _ _ _ _ _
    c.in_ok-begin_map.was c.in_err-write_in_order.was
    (err_from_is_err_and c.from_residual-in_err-write_in_order.result c.from_residual-in_err-write_in_order.ensures.1) c.begin_map.ensures
    c.write_in_order.ensures

pub returns : goal.returns
returns g c =
    all_written (container_wraps map (turn_terms g.K.Serialize.writing g.V.Serialize.writing c.args.self.now.entries)) _ _ _ _ _ _ _
    c.in_ok-begin_map.was c.in_ok-write_in_order.was c.begin_map.ensures c.write_in_order.ensures c.end_map.ensures
