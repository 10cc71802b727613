use Rattle.std.proofs.Common.{ap}
use Rattle.amqp_outlines.specs.declared.outline.Open.{Open}
use Rattle.amqp_outlines.proofs.OutlineLemmas.{meets}
use Rattle.amqp_outlines.proofs.outline.meet.Goals as goal

pub returns : goal.returns
returns c = λ l n g.
    let later = c.behind_part-later.result in
    let is = c.behind_part-later.ensures in
    let both = meets l n c.args.input.now c.args.entries.now.items c.args.opened.now.items c.args.around.now later c.args.met.now g c.requires
    (ap (λ (o : Open). o.node) is) (ap (λ (o : Open). o.depth) is) (ap (λ (o : Open). o.next) is) in
    c.enter.ensures l n (rw c.in_ok-push.ensures.items both.0) (rw c.in_ok-push.ensures.items both.1)
