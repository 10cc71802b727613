use Rattle.std.proofs.Common.{sym}
use Rattle.amqp_values.proofs.DistinctKeys.{digests_tell, keys_tell}
use Rattle.amqp_values.proofs.keys.has_equal_keys.Goals as goal

pub returns-then-are_apart-clause-equal : goal.returns-then-are_apart-clause-equal
returns-then-are_apart-clause-equal c =
    sym (digests_tell c.args.pairs.now (rw c.in_ok-digests.ensures at (c.are_apart.ensures.0 c.if-are_apart.true)))

pub returns-clause-equal : goal.returns-clause-equal
returns-clause-equal c =
    keys_tell (λ k. k.now) c.args.pairs.now c.in_ok-keys.keys.items c.are_apart-2.result c.in_ok-keys.ensures c.are_apart-2.ensures
