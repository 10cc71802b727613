use Rattle.std.proofs.lemmas.Result.{err_from_is_err_and}
use Rattle.amqp_model.specs.Term.{list}
use Rattle.amqp_model.specs.Fields.{canonical_items}
use Rattle.amqp_codec.specs.Fields.{slots}
use Rattle.amqp_codec.proofs.Joining.{container_wraps, open_refused, inner_refused, all_written}
use Rattle.amqp_codec.proofs.fields.write_list.Goals as goal

pub returns-in_err-begin_list : goal.returns-in_err-begin_list
returns-in_err-begin_list g c =
    open_refused (container_wraps list (canonical_items (slots g.L.FieldList.list.fields) c.args.value.now)) _ _ _ _
    _ c.in_err-begin_list.was
    (err_from_is_err_and c.from_residual.result c.from_residual.ensures.1) c.begin_list.ensures

pub returns-in_err-write_fields : goal.returns-in_err-write_fields
returns-in_err-write_fields g c =
    inner_refused (container_wraps list (canonical_items (slots g.L.FieldList.list.fields) c.args.value.now)) _ _ _ _ _ _ _
    c.in_ok-begin_list.was c.in_err-write_fields.was
    (err_from_is_err_and c.from_residual-in_err-write_fields.result c.from_residual-in_err-write_fields.ensures.1) c.begin_list.ensures
    c.write_fields.ensures

pub returns : goal.returns
returns g c =
    all_written (container_wraps list (canonical_items (slots g.L.FieldList.list.fields) c.args.value.now)) _ _ _ _ _ _ _
    c.in_ok-begin_list.was c.in_ok-write_fields.was
    c.begin_list.ensures c.write_fields.ensures c.end_list.ensures
