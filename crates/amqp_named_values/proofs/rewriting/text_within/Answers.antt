use Rattle.std.proofs.Common.{inl, inr, refl}
use Rattle.std.proofs.lemmas.Result.{err_from_is_err_and}
use Rattle.amqp_read_write.proofs.Rewrites.{not_written}
use Rattle.amqp_read_write.proofs.Placed.{placed}
use Rattle.amqp_named_values.proofs.Refused.{refused_at}
use Rattle.amqp_named_values.proofs.rewriting.text_within.Goals as goal

pub returns-in-Ok-clause-text : goal.returns-in-Ok-clause-text
returns-in-Ok-clause-text g c = (
  _,
  record {
    value = c.in_ok-value.value;
    read = c.in_ok-value.ensures.found;
    one = λ w m k. (c.in_ok-value.ensures.one _ w _ m c.in_ok-value.ensures.found k).0;
    bounded = c.in_ok-value.ensures.bounded _ _ c.in_ok-value.ensures.found;
    writable = c.in-Ok.ensures.writable;
    text_is = refl;
  },
  placed _ _ _ _ c.in-Ok.ensures.len c.in-Ok.ensures.text c.in-Ok.ensures.short,
)

pub returns-clause-refused : goal.returns-clause-refused
returns-clause-refused g c =
    elim (not_written g.met.T.Canonical.rewrites c.args.limits.now c.args.input.now _ _ _ c.in_ok-value.ensures.found c.in-Err.ensures.refused) [
      | inl m ↦ inl m
      | inr u ↦ inr (inr u)
    ]

pub returns-in_err-value-clause-refused : goal.returns-in_err-value-clause-refused
returns-in_err-value-clause-refused g c =
    let p = err_from_is_err_and c.from_residual.result c.from_residual.ensures.1 in
    rw (p.1, p.2)
    (elim (refused_at c.in_err-value.ensures.refused c.in_err-value.ensures.place) [
      | inl m ↦ inl m
      | inr u ↦ inr (inl u)
    ])
