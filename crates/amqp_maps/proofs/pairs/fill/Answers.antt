use Rattle.std.proofs.Common.{length, ap, arith}
use Rattle.std.specs.Vec.Iter.{into_iter_items}
use Rattle.amqp_maps.proofs.KeysApart.{moved_on}
use Rattle.amqp_maps.proofs.pairs.fill.Goals as goal

pub loop-key-preserved : goal.loop-key-preserved
loop-key-preserved g c =
    let took = c.in-Some.ensures.steps.0 in
    let put = rw c.unwrap-none.ensures at c.insert.ensures.entries in
    record {
      pairs = moved_on g.K.PartialEq.eq g.met.K.Eq.laws c.loop-key.table.entries (c.in-Some.key, c.in-Some.value)
          (into_iter_items c.next.new.self) (into_iter_items c.loop-key.key-iterator) c.args.row.items c.insert.new.self.entries
          c.requires.distinct c.loop-key.invariant.pairs took put;
      room = omega (arith, ap length took, c.insert.ensures.spare, c.loop-key.invariant.room);
    }

pub loop-key-preserved-in-Some : goal.loop-key-preserved-in-Some
loop-key-preserved-in-Some g c =
    let took = c.in-Some.ensures.steps.0 in
    let put = rw c.unwrap-none.ensures at c.insert.ensures.entries in
    record {
      pairs = moved_on g.K.PartialEq.eq g.met.K.Eq.laws c.loop-key.table.entries (c.in-Some.key, c.in-Some.value)
          (into_iter_items c.next.new.self) (into_iter_items c.loop-key.key-iterator) c.args.row.items c.insert.new.self.entries
          c.requires.distinct c.loop-key.invariant.pairs took put;
      room = omega (arith, ap length took, c.insert.ensures.spare, c.loop-key.invariant.room);
    }
