use Rattle.std.proofs.lemmas.Result.{err_from_is_err_and}
use Rattle.amqp_read_write.proofs.Passes.{measuring_refused, measured, measured_length, measured_writable, never_refused}
use Rattle.amqp_read_write.proofs.calls.measure.Goals as goal

pub returns-clause-measured : goal.returns-clause-measured
returns-clause-measured g c =
    let w = g.T.Serialize.writing in
    measured (w.canons c.args.value.now) (w.proper _ c.in_type.ensures) _ _ _ c.requires c.in_ok-serialize.was
    c.serialize.ensures _ c.measured_len.ensures.found c.measured_len.ensures.refused

pub returns-clause-len : goal.returns-clause-len
returns-clause-len g c =
    let w = g.T.Serialize.writing in
    measured_length (w.canons c.args.value.now) (w.proper _ c.in_type.ensures) _ _ _ c.requires c.in_ok-serialize.was
    c.serialize.ensures _ c.measured_len.ensures.found c.measured_len.ensures.refused

pub returns-clause-writable : goal.returns-clause-writable
returns-clause-writable g c =
    let w = g.T.Serialize.writing in
    measured_writable (w.canons c.args.value.now) (w.proper _ c.in_type.ensures) _ _ _ c.requires c.in_ok-serialize.was
    c.serialize.ensures _ c.measured_len.ensures.found c.measured_len.ensures.refused

pub returns-clause-refused : goal.returns-clause-refused
returns-clause-refused g c =
    let w = g.T.Serialize.writing in
    never_refused (w.canons c.args.value.now) (w.proper _ c.in_type.ensures) _ _ _ c.requires c.in_ok-serialize.was
    c.serialize.ensures _ c.measured_len.ensures.found c.measured_len.ensures.refused

pub returns-in_err-serialize-clause-refused : goal.returns-in_err-serialize-clause-refused
returns-in_err-serialize-clause-refused g c =
    let w = g.T.Serialize.writing in
    let p = err_from_is_err_and c.from_residual.result c.from_residual.ensures.1 in
    rw (p.1, p.2)
    (measuring_refused (w.canons c.args.value.now) (w.proper _ c.in_type.ensures) _ _ _ _ c.requires c.in_err-serialize.was
    c.serialize.ensures)
