use Rattle.std.proofs.Common.{sym}
use Rattle.amqp_sums.specs.Choices.{choice_not_null}
use Rattle.amqp_sums.proofs.sums.is_null_sum.Goals as goal

pub returns : goal.returns
returns g c = sym (choice_not_null g.S.Sum.sum.choices _)
