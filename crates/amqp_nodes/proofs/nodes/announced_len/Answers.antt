use Rattle.std.proofs.Common.{◌+◌, sym, subst}
use Rattle.amqp_model.specs.Constructors.{format}
use Rattle.amqp_nodes.proofs.Announced.{Either, sized}
use Rattle.amqp_nodes.proofs.nodes.announced_len.Goals as goal

pub returns : goal.returns
returns c =
    let F = format c.args.code in
    let width = c.size_width-width.result in
    subst (λ k. Either F (width + k) c.args.bytes.now) (sym c.behind_size.ensures)
    (sized F width c.in_ok-size.size c.args.bytes.now (sym c.size_width-width.ensures.size)
    (c.size_width-width.ensures.some c.requires c.if-code-lt-BINARY_8.false) c.in_ok-size.ensures)
