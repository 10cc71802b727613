use Rattle.std.proofs.Common.{◌≡◌, drop, length, ap, ◌∙◌, arith}
use Rattle.std.proofs.lemmas.List.{length-append, length-drop}
use Rattle.amqp_model.specs.Constructors.{format}
use Rattle.amqp_lengths.proofs.Fronts.{tail_all}
use Rattle.amqp_nodes.specs.Nodes.{head_of}
use Rattle.amqp_nodes.proofs.Shared.{constructor_some}
use Rattle.amqp_nodes.proofs.nodes.first_item.Goals as goal

pub returns-in-Array-clause-array : goal.returns-in-Array-clause-array
returns-in-Array-clause-array c = λ some kind ds d own behind is k.
    let F = format c.args.code in
    let bytes = c.args.bytes.now in
    let head = c.min-head.result in
    let least = constructor_some ds d own k in
    let full = c.head_len.ensures.head in
    let least_of = c.min-head.ensures in
    let same : head ≡ head_of F = omega (arith, least, full, least_of, ap length is, length-append own behind, length-drop (head_of F) bytes) in
    let found = c.shared_code-item_code.ensures.found ds d own behind (tail_all head bytes ∙ ap (λ n. drop n bytes) same ∙ is) k in
    (found.0, omega (arith, same, found.1))
