use Rattle.std.proofs.Common.{◌≡◌, ◌≤◌, ◌-◌, ◌++◌, length, take}
use Rattle.amqp_wire.specs.Sources.{known, IsTold}
use Rattle.amqp_wire.proofs.source.pull_full.Given as goal

abbrev pub invariant-loop-done : goal.invariant-loop-done
invariant-loop-done g l =
    (l.done ≤ length l.initial.buffer)
    × (IsTold (g.R.ByteSource.remaining l.fn.source) → IsTold (g.R.ByteSource.remaining l.source)
    × (known (g.R.ByteSource.remaining l.fn.source) ≡ take l.done l.buffer ++ known (g.R.ByteSource.remaining l.source)))
    × (g.R.ByteSource.failed l.source ≡ g.R.ByteSource.failed l.fn.source)
    × (g.R.ByteSource.name l.source ≡ g.R.ByteSource.name l.fn.source)

abbrev pub decreases-loop-done : goal.decreases-loop-done
decreases-loop-done g l = length l.initial.buffer - l.done
