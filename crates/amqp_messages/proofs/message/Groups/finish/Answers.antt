use Rattle.std.proofs.Common.{inl, inr}
use Rattle.std.proofs.lemmas.Result.{err_from_is_err_and}
use Rattle.amqp_messages.proofs.message.Groups.finish.Goals as goal

pub returns-in_err-body-in-None-clause-refused : goal.returns-in_err-body-in-None-clause-refused
returns-in_err-body-in-None-clause-refused g c =
    let p =
    err_from_is_err_and c.from_residual-in_err-body-in-None.result c.from_residual-in_err-body-in-None.ensures.1 in
    rw (p.1, p.2)
    (elim c.in_err-body-in-None.ensures.refused [
      | inl m ↦ inl m
      | inr e ↦ inr (c.in-None.is, e.0, λ v h. e.1 v (g.met.B.FromBody.is_empty v h))
    ])
