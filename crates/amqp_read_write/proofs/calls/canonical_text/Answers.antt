use Rattle.std.proofs.lemmas.Result.{err_from_is_err_and}
use Rattle.amqp_read_write.proofs.Rewrites.{read_again, one_text, no_other, every_text, unchanged, shortest, all_shortest, unwritten, unfailing, unlimited}
use Rattle.amqp_read_write.proofs.calls.canonical_text.Goals as goal

pub returns-clause-text : goal.returns-clause-text
returns-clause-text g c = record {
  value = c.in_ok-value.value;
  read = c.in_ok-value.ensures.found;
  one = λ w m k. (c.in_ok-value.ensures.one _ w _ m c.in_ok-value.ensures.found k).0;
  bounded = c.in_ok-value.ensures.bounded _ _ c.in_ok-value.ensures.found;
  writable = c.in_ok-text.ensures.writable;
  text_is = c.in_ok-text.ensures.text;
}

pub returns-clause-read_again : goal.returns-clause-read_again
returns-clause-read_again g c = read_again g.met.T.Canonical.rewrites _ _ _ (returns-clause-text g c)

pub returns-clause-one_text : goal.returns-clause-one_text
returns-clause-one_text g c = one_text g.met.T.Canonical.rewrites _ _ _ (returns-clause-text g c)

pub returns-clause-no_other : goal.returns-clause-no_other
returns-clause-no_other g c = no_other g.met.T.Canonical.rewrites _ _ _ (returns-clause-text g c)

pub returns-clause-every_text : goal.returns-clause-every_text
returns-clause-every_text g c = every_text g.met.T.Canonical.rewrites

pub returns-clause-unchanged : goal.returns-clause-unchanged
returns-clause-unchanged g c = unchanged g.met.T.Canonical.rewrites _ _ _ (returns-clause-text g c)

pub returns-clause-shortest : goal.returns-clause-shortest
returns-clause-shortest g c = all_shortest g.met.T.Canonical.rewrites

pub returns-clause-no_shorter : goal.returns-clause-no_shorter
returns-clause-no_shorter g c = shortest g.met.T.Canonical.rewrites _ _ _ (returns-clause-text g c)

pub returns-in_err-text-clause-refused : goal.returns-in_err-text-clause-refused
returns-in_err-text-clause-refused g c =
    let p = err_from_is_err_and c.from_residual-in_err-text.result c.from_residual-in_err-text.ensures.1 in
    rw (p.1, p.2) (unwritten g.met.T.Canonical.rewrites c.args.input.now _ _ _ c.in_ok-value.ensures.found c.in_err-text.ensures.refused)

pub returns-in_err-text-clause-unfailing : goal.returns-in_err-text-clause-unfailing
returns-in_err-text-clause-unfailing g c =
    let p = err_from_is_err_and c.from_residual-in_err-text.result c.from_residual-in_err-text.ensures.1 in
    rw (p.1, p.2) (unfailing (unwritten g.met.T.Canonical.rewrites c.args.input.now _ _ _ c.in_ok-value.ensures.found
    c.in_err-text.ensures.refused))

pub returns-in_err-text-clause-unlimited : goal.returns-in_err-text-clause-unlimited
returns-in_err-text-clause-unlimited g c =
    let p = err_from_is_err_and c.from_residual-in_err-text.result c.from_residual-in_err-text.ensures.1 in
    rw (p.1, p.2) (unlimited g.met.T.Canonical.rewrites _ _ _ c.in_ok-value.ensures.found c.in_err-text.ensures.refused)

pub returns-in_err-value-clause-shortest : goal.returns-in_err-value-clause-shortest
returns-in_err-value-clause-shortest g c = all_shortest g.met.T.Canonical.rewrites

pub returns-in_err-text-clause-shortest : goal.returns-in_err-text-clause-shortest
returns-in_err-text-clause-shortest g c = all_shortest g.met.T.Canonical.rewrites
