use Rattle.std.proofs.Common.{ap, subst, arith}
use Rattle.amqp_lengths.specs.Fronts.{IsFront}
use Rattle.amqp_lengths.specs.Pieces.{IsNumber}
use Rattle.amqp_lengths.proofs.Fronts.{tail_all}
use Rattle.amqp_paths.specs.Pieces.{container_of}
use Rattle.amqp_paths.proofs.Containers.{content_found, content_ends, content_none}
use Rattle.amqp_paths.proofs.contents.content_in.Goals as goal

pub returns-clause-content : goal.returns-clause-content
returns-clause-content c =
    let w = c.args.head.width in
    content_found (container_of c.args.head.kind) w c.in_ok-size.size c.in_ok-count.count c.args.input.now c.in_ok-size.ensures.number
    (subst (λ l. IsFront (IsNumber w c.in_ok-count.count) l w) (tail_all w c.args.input.now) c.in_ok-count.ensures.number) (omega arith)
    (omega arith)

pub returns-in-List-clause-content : goal.returns-in-List-clause-content
returns-in-List-clause-content c =
    let w = c.args.head.width in
    content_none (container_of c.args.head.kind) w c.in_ok-size.size c.in_ok-count.count c.args.input.now c.in_ok-size.ensures.number
    (subst (λ l. IsFront (IsNumber w c.in_ok-count.count) l w) (tail_all w c.args.input.now) c.in_ok-count.ensures.number)
    (ap container_of c.in-List.is) c.if-size-eq0.true c.if-count-eq0.true

pub returns-then-end-input-clause-content : goal.returns-then-end-input-clause-content
returns-then-end-input-clause-content c =
    let w = c.args.head.width in
    content_ends (container_of c.args.head.kind) w c.in_ok-size.size c.in_ok-count.count c.args.input.now c.in_ok-size.ensures.number
    (subst (λ l. IsFront (IsNumber w c.in_ok-count.count) l w) (tail_all w c.args.input.now) c.in_ok-count.ensures.number) (omega arith)
    (omega arith)
