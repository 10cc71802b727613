use Rattle.std.proofs.Common.{length, ap, ◌∙◌}
use Rattle.std.proofs.lemmas.Result.{err_from_is_err_and}
use Rattle.amqp_read_write.proofs.Passes.{measuring_refused, measured, measured_length, measured_writable, never_refused}
use Rattle.amqp_decoder.proofs.ReadPrimitives.{ok_map, err_map}
use Rattle.amqp_frames.proofs.WriteLemmas.{unwritable, on_ok}
use Rattle.amqp_frames.proofs.writing.measure.Goals as goal

pub returns-in_err-serialize-clause-refused : goal.returns-in_err-serialize-clause-refused
returns-in_err-serialize-clause-refused g c =
    let w = g.T.Serialize.writing in
    let p = err_from_is_err_and c.from_residual.result c.from_residual.ensures.1 in
    rw (p.1, p.2)
    (unwritable g.T.DeserializeTerm.term w c.one_term_is_written.ensures.refused c.args.value.now _ c.in_type.ensures
    (measuring_refused (w.canons c.args.value.now) (w.proper _ c.in_type.ensures) _ _ _ _ c.requires c.in_err-serialize.was
    c.serialize.ensures))

pub returns-clause-len : goal.returns-clause-len
returns-clause-len g c =
    let w = g.T.Serialize.writing in
    ok_map c.measured_len.result _ _ (λ len h. h ∙ ap length (c.one_term_is_written.ensures.text c.args.value.now))
    (measured_length (w.canons c.args.value.now) (w.proper _ c.in_type.ensures) _ _ _ c.requires c.in_ok-serialize.was
    c.serialize.ensures _ c.measured_len.ensures.found c.measured_len.ensures.refused)

pub returns-clause-sizes : goal.returns-clause-sizes
returns-clause-sizes g c =
    let w = g.T.Serialize.writing in
    measured (w.canons c.args.value.now) (w.proper _ c.in_type.ensures) _ _ _ c.requires c.in_ok-serialize.was
    c.serialize.ensures _ c.measured_len.ensures.found c.measured_len.ensures.refused

pub returns-clause-writable : goal.returns-clause-writable
returns-clause-writable g c =
    let w = g.T.Serialize.writing in
    on_ok _ _ c.measured_len.result (c.one_term_is_written.ensures.writable c.args.value.now)
    (measured_writable (w.canons c.args.value.now) (w.proper _ c.in_type.ensures) _ _ _ c.requires c.in_ok-serialize.was
    c.serialize.ensures _ c.measured_len.ensures.found c.measured_len.ensures.refused)

pub returns-clause-refused : goal.returns-clause-refused
returns-clause-refused g c =
    let w = g.T.Serialize.writing in
    err_map c.measured_len.result _ _
    (λ e h. unwritable g.T.DeserializeTerm.term w c.one_term_is_written.ensures.refused c.args.value.now e c.in_type.ensures h)
    (never_refused (w.canons c.args.value.now) (w.proper _ c.in_type.ensures) _ _ _ c.requires c.in_ok-serialize.was
    c.serialize.ensures _ c.measured_len.ensures.found c.measured_len.ensures.refused)
