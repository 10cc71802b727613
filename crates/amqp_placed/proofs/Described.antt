-- A value behind a descriptor of its own (Part 1, section 1.2).
use Rattle.amqp_wire.specs.declared.error.Error.{Error}
use Rattle.amqp_decoder.specs.State.{State}
use Rattle.amqp_decoder.specs.Places.{Located}
use Rattle.amqp_described.specs.DescribedReading.{DescribedValueFault, unopened, in_value}
use Rattle.amqp_placed.specs.Facing.{AreShown}
use Rattle.amqp_placed.proofs.Descriptions.{unopened_shown, described_shown}

pub described_value_shown : (e : Error) (fault : State → Located → Type 0) → AreShown e fault
    → AreShown e (DescribedValueFault fault)
described_value_shown e fault shown st f is (unopened h) = unopened_shown st f h
described_value_shown e fault shown st f is (in_value {d} {inner} o h) = described_shown st inner d f o (shown inner f is h)
