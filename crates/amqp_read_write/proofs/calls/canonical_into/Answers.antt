use Rattle.std.proofs.Common.{refl, sym, subst}
use Rattle.std.proofs.lemmas.Result.{err_from_is_err_and}
use Rattle.amqp_read_write.proofs.Unwritten.{IsOfReading, unwritten_apart, read_apart}
use Rattle.amqp_read_write.proofs.Rewrites.{unwritten_within}
use Rattle.amqp_read_write.proofs.Placed.{placed}
use Rattle.amqp_read_write.proofs.calls.canonical_into.Goals as goal

pub returns-clause-text : goal.returns-clause-text
returns-clause-text g c = (
  _,
  record {
    value = c.in_ok-value.value;
    read = c.in_ok-value.ensures.found;
    one = λ w m k. (c.in_ok-value.ensures.one _ w _ m c.in_ok-value.ensures.found k).0;
    bounded = c.in_ok-value.ensures.bounded _ _ c.in_ok-value.ensures.found;
    writable = c.in_ok-len.ensures.writable;
    text_is = refl;
  },
  placed _ _ _ _ c.in_ok-len.ensures.len c.in_ok-len.ensures.text c.in_ok-len.ensures.short,
)

pub returns-in_err-len-clause-refused : goal.returns-in_err-len-clause-refused
returns-in_err-len-clause-refused g c =
    let p = err_from_is_err_and c.from_residual-in_err-len.result c.from_residual-in_err-len.ensures.1 in
    rw (p.1, p.2) (unwritten_within g.met.T.Canonical.rewrites c.args.limits.now c.args.input.now _ _ _
    c.in_ok-value.ensures.found c.in_err-len.ensures.refused)

pub returns-in_err-len-clause-unfailing : goal.returns-in_err-len-clause-unfailing
returns-in_err-len-clause-unfailing g c =
    let p = err_from_is_err_and c.from_residual-in_err-len.result c.from_residual-in_err-len.ensures.1 in
    rw (p.1, p.2) (λ read. unwritten_apart _ _ c.in_err-len.ensures.refused (read_apart _ read))

pub returns-in_err-len-clause-limited : goal.returns-in_err-len-clause-limited
returns-in_err-len-clause-limited g c =
    let p = err_from_is_err_and c.from_residual-in_err-len.result c.from_residual-in_err-len.ensures.1 in
    rw (p.1, p.2) (λ is greatest. unwritten_apart _ _ c.in_err-len.ensures.refused (subst IsOfReading (sym is) tt))
