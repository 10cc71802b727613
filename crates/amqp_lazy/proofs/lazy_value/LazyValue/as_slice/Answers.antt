use Rattle.std.proofs.Common.{◌≡◌, ◌≤◌, subst}
use Rattle.amqp_model.specs.Term.{Term}
use Rattle.amqp_model.specs.Spelling.{IsSpelling}
use Rattle.amqp_model.specs.Measures.{nest, nodes}
use Rattle.amqp_lazy.specs.LazyType.{Lazy}
use Rattle.amqp_lazy.proofs.Measured.{nodes_fixed, nest_bounded}
use Rattle.amqp_lazy.proofs.lazy_value.LazyValue.as_slice.Goals as goal

pub returns-clause-nodes : goal.returns-clause-nodes
returns-clause-nodes c =
    let v = c.self.inside in
    subst (λ (w : Lazy). (t : Term) → IsSpelling w.bytes.items t → nodes t ≡ w.nodes) c.self.view_is
    (nodes_fixed v.nodes v.nesting v.bytes.items c.self.invariant)

pub returns-clause-nested : goal.returns-clause-nested
returns-clause-nested c =
    let v = c.self.inside in
    subst (λ (w : Lazy). (t : Term) → IsSpelling w.bytes.items t → nest t ≤ 128) c.self.view_is
    (nest_bounded v.nodes v.nesting v.bytes.items c.self.invariant)
