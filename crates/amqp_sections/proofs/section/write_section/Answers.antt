use Rattle.std.proofs.lemmas.Result.{err_from_is_err_and}
use Rattle.amqp_model.specs.Term.{code}
use Rattle.amqp_codec.specs.Written.{canon_of}
use Rattle.amqp_codec.proofs.Joining.{described_wraps, open_refused, inner_refused, all_written}
use Rattle.amqp_sections.proofs.section.write_section.Goals as goal

pub returns-in_err-begin_described : goal.returns-in_err-begin_described
returns-in_err-begin_described g c =
    open_refused (described_wraps (code c.args.number) (canon_of g.T.Serialize.writing c.args.value.now)) _ _ _ _ _
    c.in_err-begin_described.was (err_from_is_err_and c.from_residual.result c.from_residual.ensures.1) c.begin_described.ensures

pub returns-in_err-serialize : goal.returns-in_err-serialize
returns-in_err-serialize g c =
    inner_refused (described_wraps (code c.args.number) (canon_of g.T.Serialize.writing c.args.value.now)) _ _ _ _ _ _ _
    c.in_ok-begin_described.was c.in_err-serialize.was
    (err_from_is_err_and c.from_residual-in_err-serialize.result c.from_residual-in_err-serialize.ensures.1)
    c.begin_described.ensures (rw (g.met.T.SerializeTerm.is_term c.args.value.now) at c.serialize.ensures)

pub returns : goal.returns
returns g c =
    all_written (described_wraps (code c.args.number) (canon_of g.T.Serialize.writing c.args.value.now)) _ _ _ _ _ _ _
    c.in_ok-begin_described.was c.in_ok-serialize.was c.begin_described.ensures
    (rw (g.met.T.SerializeTerm.is_term c.args.value.now) at c.serialize.ensures) c.end_described.ensures
