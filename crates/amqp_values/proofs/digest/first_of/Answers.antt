use Rattle.std.proofs.Common.{take, ap, ◌∙◌}
use Rattle.std.proofs.Math.Nat.{min_comm}
use Rattle.std.proofs.lemmas.List.{take_min}
use Rattle.amqp_values.proofs.digest.first_of.Goals as goal

pub returns : goal.returns
returns g c = ap (λ n. take n c.args.items.now) (c.min.ensures ∙ min_comm _ 32) ∙ take_min 32 c.args.items.now
