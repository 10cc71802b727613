use Rattle.std.proofs.Common.{refl, sym, subst, arith}
use Rattle.amqp_model.specs.Term.{null, leaf}
use Rattle.amqp_model.specs.Spelling.{IsSpelling}
use Rattle.amqp_lazy.specs.LazyType.{null_spelled}
use Rattle.amqp_lazy.proofs.lazy_value.LazyValue.null.Goals as goal

pub invariant_of-result : goal.invariant_of-result
invariant_of-result c =
    (leaf null, subst (λ b. IsSpelling b (leaf null)) (sym c.in_ok-from_slice.ensures.items) null_spelled, refl, refl, omega arith)

pub returns-clause-null : goal.returns-clause-null
returns-clause-null c =
    let e = sym c.in_ok-from_slice.ensures.items in (e, subst (λ b. IsSpelling b (leaf null)) e null_spelled, refl)
