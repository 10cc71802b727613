use Rattle.std.proofs.Common.{◌≤◌, refl, arith}
use Rattle.std.proofs.lemmas.Result.{on_ok_weaker}
use Rattle.amqp_outlines.proofs.OutlineLemmas.{begun, outline_of}
use Rattle.amqp_outlines.proofs.outline.add_values.Goals as goal

pub returns : goal.returns
returns c = λ l low h.
    let n = c.args.root.now.node.end in
    let le : n ≤ n = omega arith in
    let both = begun l n c.args.root.now.from c.args.entries.now.items c.args.root.now low h refl refl c.requires in
    let g = c.in_ok-enter.ensures l n (rw c.new-opened.ensures.items both.0) (rw c.new-opened.ensures.items both.1) in
    on_ok_weaker c.add_parts.result
    (λ grown. outline_of l n n c.add_parts.new.entries.items c.add_parts.new.opened.items grown le) (c.add_parts.ensures l n g)
