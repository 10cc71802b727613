use Rattle.std.proofs.Common.{rules, refl}
use Rattle.amqp_bodies.specs.declared.body.Body.TheVariants.{Sequence}
use Rattle.amqp_bodies.proofs.TransposeSteps.{batch_held, body_held}
use Rattle.amqp_bodies.proofs.transpose.BodyTransposeOption.transpose.Goals as goal

pub returns-in-Some-clause-value : goal.returns-in-Some-clause-value
returns-in-Some-clause-value g c =
    let h = rw c.in-Some.is at c.in_ok-sequences-in-Sequence.ensures.sequences in
    let held = batch_held g.T.DeserializeTerm.term c.in-Sequence.batch (λ e. search rules) c.in-Some.sequences h in
    (Sequence c.in-Some.sequences, body_held g.T.DeserializeTerm.term c.args.src c.in-Sequence.batch c.in-Some.sequences c.in-Sequence.is held, refl)
