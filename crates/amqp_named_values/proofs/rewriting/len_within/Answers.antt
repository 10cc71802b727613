use Rattle.std.proofs.lemmas.Result.{err_from_is_err_and}
use Rattle.amqp_named_values.proofs.Refused.{refused_at}
use Rattle.amqp_named_values.proofs.rewriting.len_within.Goals as goal

pub returns-clause-found : goal.returns-clause-found
returns-clause-found g c = record {
  value = c.in_ok-_value._value;
  read = c.in_ok-_value.ensures.found;
  one = λ w m h. c.in_ok-_value.ensures.one _ w _ m c.in_ok-_value.ensures.found h;
}

pub returns-in_err-_value-clause-refused : goal.returns-in_err-_value-clause-refused
returns-in_err-_value-clause-refused g c =
    let p = err_from_is_err_and c.from_residual.result c.from_residual.ensures.1 in
    rw (p.1, p.2) (refused_at c.in_err-_value.ensures.refused c.in_err-_value.ensures.place)
