use Rattle.std.proofs.Common.{sym, subst}
use Rattle.std.proofs.lemmas.Result.{err_from_is_err_and}
use Rattle.amqp_read_write.proofs.Unwritten.{IsOfReading, unwritten_apart, read_apart}
use Rattle.amqp_read_write.proofs.Rewrites.{without_limits, read_again, one_text, no_other, unchanged, shortest, unwritten_within}
use Rattle.amqp_read_write.proofs.calls.canonical_text_within.Goals as goal

pub returns-clause-text : goal.returns-clause-text
returns-clause-text g c = record {
  value = c.in_ok-value.value;
  read = c.in_ok-value.ensures.found;
  one = λ w m k. (c.in_ok-value.ensures.one _ w _ m c.in_ok-value.ensures.found k).0;
  bounded = c.in_ok-value.ensures.bounded _ _ c.in_ok-value.ensures.found;
  writable = c.in_ok-written.ensures.writable;
  text_is = c.in_ok-written.ensures.text;
}

pub returns-clause-read_again : goal.returns-clause-read_again
returns-clause-read_again g c =
    let laws = g.met.T.Canonical.rewrites in
    read_again laws _ _ _ (without_limits laws c.args.limits.now _ _ _ (returns-clause-text g c))

pub returns-clause-one_text : goal.returns-clause-one_text
returns-clause-one_text g c =
    let laws = g.met.T.Canonical.rewrites in
    one_text laws _ _ _ (without_limits laws c.args.limits.now _ _ _ (returns-clause-text g c))

pub returns-clause-no_other : goal.returns-clause-no_other
returns-clause-no_other g c =
    let laws = g.met.T.Canonical.rewrites in
    no_other laws _ _ _ (without_limits laws c.args.limits.now _ _ _ (returns-clause-text g c))

pub returns-clause-unchanged : goal.returns-clause-unchanged
returns-clause-unchanged g c =
    let laws = g.met.T.Canonical.rewrites in
    unchanged laws _ _ _ (without_limits laws c.args.limits.now _ _ _ (returns-clause-text g c))

pub returns-clause-no_shorter : goal.returns-clause-no_shorter
returns-clause-no_shorter g c =
    let laws = g.met.T.Canonical.rewrites in
    shortest laws _ _ _ (without_limits laws c.args.limits.now _ _ _ (returns-clause-text g c))

pub returns-in_err-written-clause-refused : goal.returns-in_err-written-clause-refused
returns-in_err-written-clause-refused g c =
    let p = err_from_is_err_and c.from_residual-in_err-written.result c.from_residual-in_err-written.ensures.1 in
    rw (p.1, p.2) (unwritten_within g.met.T.Canonical.rewrites c.args.limits.now c.args.input.now _ _ _
    c.in_ok-value.ensures.found c.in_err-written.ensures.refused)

pub returns-in_err-written-clause-unfailing : goal.returns-in_err-written-clause-unfailing
returns-in_err-written-clause-unfailing g c =
    let p = err_from_is_err_and c.from_residual-in_err-written.result c.from_residual-in_err-written.ensures.1 in
    rw (p.1, p.2) (λ read. unwritten_apart _ _ c.in_err-written.ensures.refused (read_apart _ read))

pub returns-in_err-written-clause-limited : goal.returns-in_err-written-clause-limited
returns-in_err-written-clause-limited g c =
    let p = err_from_is_err_and c.from_residual-in_err-written.result c.from_residual-in_err-written.ensures.1 in
    rw (p.1, p.2) (λ is greatest. unwritten_apart _ _ c.in_err-written.ensures.refused (subst IsOfReading (sym is) tt))
