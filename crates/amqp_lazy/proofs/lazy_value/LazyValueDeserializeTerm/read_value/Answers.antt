use Rattle.std.proofs.Common.{subst}
use Rattle.std.proofs.lemmas.Result.{err_from_is_err_and}
use Rattle.amqp_lengths.specs.Measured.{IsMeasured}
use Rattle.amqp_lazy.proofs.TermReads.{value_read, term_refused}
use Rattle.amqp_lazy.proofs.lazy_value.LazyValueDeserializeTerm.read_value.Goals as goal

pub returns-in_err-bytes-clause-read : goal.returns-in_err-bytes-clause-read
returns-in_err-bytes-clause-read g c tells =
    let p = err_from_is_err_and c.from_residual.result c.from_residual.ensures.1 in
    rw (p.1, p.2) (term_refused _ _ _ (c.in_err-bytes.ensures.read tells))

pub returns-in-Some-clause-read : goal.returns-in-Some-clause-read
returns-in-Some-clause-read g c tells =
    let term = c.in-Some.term in
    let bytes = c.in_ok-bytes.bytes in
    value_read c.args.decoder.now (record { bytes = bytes; nodes = term.nodes }) term.nesting c.read_term.new.self
    (c.in_ok-bytes.ensures.read tells)
    (subst (IsMeasured term.nodes term.nesting) c.as_slice.ensures.value c.in-Some.ensures.measured)
