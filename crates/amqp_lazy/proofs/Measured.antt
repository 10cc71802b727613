-- What is measured of bytes holds of each term that they spell.
use Rattle.std.proofs.Common.{◌≡◌, ℕ, ◌≤◌, List, ap, ◌∙◌, subst, sym}
use Rattle.amqp_model.specs.Term.{Term}
use Rattle.amqp_model.specs.Spelling.{IsSpelling}
use Rattle.amqp_model.specs.Measures.{nest, nodes}
use Rattle.amqp_lengths.specs.Measured.{IsMeasured}
use Rattle.amqp_lazy.specs.LazyType.{one_spelled}

pub nodes_fixed : (n k : ℕ) (b : List ℕ) → IsMeasured n k b → (t : Term) → IsSpelling b t → nodes t ≡ n
nodes_fixed n k b (u, spelled, counted, deep, few) t s = ap nodes (one_spelled b t u s spelled) ∙ counted

pub nest_bounded : (n k : ℕ) (b : List ℕ) → IsMeasured n k b → (t : Term) → IsSpelling b t → nest t ≤ 128
nest_bounded n k b (u, spelled, counted, deep, few) t s =
    subst (λ i. i ≤ 128) (sym (ap nest (one_spelled b t u s spelled) ∙ deep)) few
