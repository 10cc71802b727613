use Rattle.std.proofs.Common.{[], sym, arith, ◌∙◌}
use Rattle.std.proofs.lemmas.Result.{err_from_is_err_and}
use Rattle.std.specs.List.{flat_map}
use Rattle.amqp_codec.proofs.Joining.{no_terms, terms_cut}
use Rattle.amqp_codec.proofs.EachWritten.{next_written, next_refused, all_written_so}
use Rattle.amqp_codec.proofs.lists.write_each.Goals as goal

pub returns-in_err-check : goal.returns-in_err-check
returns-in_err-check g c =
    terms_cut [] (flat_map g.T.Serialize.writing.canons c.args.values.now) _ _ _ _ _ c.in_err-check.was
    (err_from_is_err_and c.from_residual.result c.from_residual.ensures.1) (no_terms _ _ c.check.ensures)

pub loop-value-init : goal.loop-value-init
loop-value-init g c = no_terms _ _ (sym c.in_ok-check.was ∙ c.check.ensures)

pub returns-in_err-serialize : goal.returns-in_err-serialize
returns-in_err-serialize g c =
    next_refused g.T.Serialize.writing.canons c.args.values.now c.loop-value.value-index c.value-item.result _ _ _ _ _ _
    c.loop-value-test.true c.value-item.is c.in_err-serialize.was
    (err_from_is_err_and c.from_residual-in_err-serialize.result c.from_residual-in_err-serialize.ensures.1)
    c.loop-value.invariant c.serialize.ensures

pub loop-value-preserved : goal.loop-value-preserved
loop-value-preserved g c =
    next_written g.T.Serialize.writing.canons c.args.values.now c.loop-value.value-index c.value-item.result _ _ _ _
    c.loop-value-test.true c.value-item.is c.in_ok-serialize.was c.loop-value.invariant c.serialize.ensures

pub returns : goal.returns
returns g c =
    all_written_so g.T.Serialize.writing.canons c.args.values.now c.loop-value.value-index _ _ (omega (arith, c.loop-value-test.false))
    c.loop-value.invariant
