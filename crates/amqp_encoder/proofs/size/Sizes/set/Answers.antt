use Rattle.amqp_encoder.proofs.FirstSizes.{set_first}
use Rattle.amqp_encoder.proofs.size.Sizes.set.Goals as goal

pub returns-then-index-lt-FIRST : goal.returns-then-index-lt-FIRST
returns-then-index-lt-FIRST c =
    let s = c.self.inside in
    rw (← c.self.view_is) (set_first s.first s.more.items s.len c.args.index c.args.size c.if-index-lt-FIRST.true c.self.invariant.0
    c.self.invariant.1 c.self.invariant.2 (rw c.self.view_is c.requires))
