use Rattle.std.proofs.Common.{arith, length, drop, ◌-◌}
use Rattle.std.proofs.lemmas.List.{length-take}
use Rattle.amqp_lines.proofs.Progress.{piece_more}
use Rattle.amqp_lines.proofs.engine.write_whole.Goals as goal

pub loop-done-preserved : goal.loop-done-preserved
loop-done-preserved g c = (
  omega (arith, c.in-Ok.ensures.bound, length-take (length c.args.bytes.now - c.loop-done.done) (drop c.loop-done.done c.args.bytes.now)),
  piece_more _ _ _ c.args.bytes.now c.loop-done.done c.in-Ok.n c.loop-done.invariant.1 c.in-Ok.ensures.bytes,
)
