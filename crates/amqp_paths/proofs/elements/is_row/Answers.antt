use Rattle.std.proofs.Common.{subst, arith}
use Rattle.amqp_lengths.specs.Lengths.{IsTerm, Row}
use Rattle.amqp_paths.specs.Pieces.{container_of}
use Rattle.amqp_paths.proofs.Among.{among_slice}
use Rattle.amqp_paths.proofs.Containers.{row_there, so}
use Rattle.amqp_paths.proofs.elements.is_row.Goals as goal

pub returns : goal.returns
returns c = λ t.
    let content = c.in-Some.content in
    let h = c.in-Some.ensures.content in
    let pairs = c.has_pairs.ensures c.if-not-has_pairs.false in
    let same = among_slice c.args.data.now h.items content.start h.behind content.end h.part h.ends in
    row_there (container_of c.args.head.kind) c.args.head.width c.args.data.now content h (so content.whole c.if-not-content.false) (omega (arith, c.if-content-data.false))
    pairs.0 (subst (Row (IsTerm 128) content.count) same (c.are_values.ensures t)) pairs.1
