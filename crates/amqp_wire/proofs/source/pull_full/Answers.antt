use Rattle.std.proofs.Common.{◌≤◌, ◌-◌, ◌∙◌, arith, length, drop}
use Rattle.std.proofs.lemmas.List.{length-take-le, length-drop}
use Rattle.amqp_wire.proofs.Sources.{consumed_known, consumed_told, pulled, pulled_none, ended}
use Rattle.amqp_wire.proofs.source.pull_full.Goals as goal

pub returns-then-count-eq0-clause-bytes : goal.returns-then-count-eq0-clause-bytes
returns-then-count-eq0-clause-bytes g c = λ told.
    let within : c.loop-done.done ≤ length c.loop-done.buffer = omega (arith, c.loop-done.invariant.0, c.loop-done.auto.buffer) in
    pulled_none _ _ _ _ _ _ _ _ within c.if-count-eq0.true (c.loop-done.invariant.1 told).1
    (consumed_known _ _ _ (c.loop-done.invariant.1 told).0 c.in_ok-count.ensures.bytes)

pub returns-then-count-eq0-clause-all : goal.returns-then-count-eq0-clause-all
returns-then-count-eq0-clause-all g c =
    λ told less. ended _ _ _ _ _ (c.loop-done.invariant.1 told).0 c.in_ok-count.ensures.bytes c.in_ok-count.ensures.some c.if-count-eq0.true
    (omega (
      arith,
      less,
      c.loop-done.auto.buffer,
      length-take-le (length c.loop-done.buffer - c.loop-done.done) (drop c.loop-done.done c.loop-done.buffer),
      length-drop c.loop-done.done c.loop-done.buffer,
    ))

pub loop-done-preserved : goal.loop-done-preserved
loop-done-preserved g c =
    let within : c.loop-done.done ≤ length c.loop-done.buffer = omega (arith, c.loop-done.invariant.0, c.loop-done.auto.buffer) in
    let whole = length-take-le (length c.loop-done.buffer - c.loop-done.done) (drop c.loop-done.done c.loop-done.buffer)
    (omega (arith, length-drop c.loop-done.done c.loop-done.buffer)) in (
      omega (arith, c.in_ok-count.ensures.fits, whole, c.loop-done.auto.buffer),
      λ told.
          let before = c.loop-done.invariant.1 told in (
            consumed_told _ _ _ before.0 c.in_ok-count.ensures.bytes,
            pulled _ _ _ _ _ _ _ _ within (omega (arith, c.in_ok-count.ensures.fits, c.pull.auto.buffer)) before.1
                (consumed_known _ _ _ before.0 c.in_ok-count.ensures.bytes),
          ),
      c.in_ok-count.ensures.kept ∙ c.loop-done.invariant.2,
      c.pull.ensures.named ∙ c.loop-done.invariant.3,
    )
