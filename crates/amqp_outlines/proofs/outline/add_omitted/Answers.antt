use Rattle.amqp_outlines.proofs.OutlineLemmas.{omitted}
use Rattle.amqp_outlines.proofs.outline.add_omitted.Goals as goal

pub returns : goal.returns
returns c = λ l n os g.
    rw c.in_ok-push.ensures.items
    (omitted l n c.args.entries.now.items os c.args.around.now c.omitted_field.result g c.omitted_field.ensures.depth
    c.omitted_field.ensures.from c.omitted_field.ensures.to)
