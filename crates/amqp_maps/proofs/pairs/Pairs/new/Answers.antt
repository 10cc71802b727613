use Rattle.std.proofs.Common.{length, sym, ap, subst, arith}
use Rattle.amqp_maps.specs.Pairs.{HaveDistinctKeys}
use Rattle.amqp_maps.proofs.KeysApart.{none_distinct}
use Rattle.amqp_maps.proofs.pairs.Pairs.new.Goals as goal

pub returns-clause-sound : goal.returns-clause-sound
returns-clause-sound g c = record {
  distinct = subst (HaveDistinctKeys g.K.PartialEq.eq) (sym c.new.ensures.items) (none_distinct g.row.V.Denot g.K.PartialEq.eq);
  few = omega (arith, ap length c.new.ensures.items);
}
