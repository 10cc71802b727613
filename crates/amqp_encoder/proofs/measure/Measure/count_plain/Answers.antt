use Rattle.amqp_encoder.specs.State.{seen}
use Rattle.amqp_encoder.proofs.Enclosed.{kept_whole}
use Rattle.amqp_encoder.proofs.measure.Measure.count_plain.Goals as goal

pub invariant_of-self : goal.invariant_of-self
invariant_of-self c = (
  c.self.invariant.0,
  kept_whole _ (seen c.self.inside.top)
      (seen (record c.self.inside.top { content = c.in-Some.content; count = c.in-Some-checked_add.count })) (rw (← c.self.view_is) at c.requires.1) c.self.invariant.1,
)
