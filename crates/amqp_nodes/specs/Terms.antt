-- Why no term is there.
use Rattle.std.specs.Prelude.{◌≡◌, List, ℕ}
use Rattle.amqp_wire.specs.declared.error.Error.{Error}
use Rattle.amqp_wire.specs.declared.error.Error.TheVariants.{Cut, Depth}
use Rattle.amqp_lengths.specs.Fronts.{NoFront}
use Rattle.amqp_lengths.specs.Lengths.{IsTerm, IsCutTerm}
use Rattle.amqp_lengths.specs.Faults.{HasFault}

-- The error names a fault of an input that begins with no term, and is `Cut` where more bytes make one of it.
abbrev pub RefusesTerm : List ℕ → Error → Type 0
RefusesTerm input e =
    NoFront (IsTerm 128) input × HasFault Depth 128 input e × (IsCutTerm 128 input → e ≡ Cut)
