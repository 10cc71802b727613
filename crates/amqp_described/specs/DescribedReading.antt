-- How a described value is read: its descriptor, and then what it describes (Part 1, section 1.2).
use Rattle.amqp_model.specs.Term.{Descriptor}
use Rattle.amqp_decoder.specs.State.{State}
use Rattle.amqp_decoder.specs.Rooms.{HasRoom}
use Rattle.amqp_decoder.specs.Misspelled.{IsMisspelling, NothingStands}
use Rattle.amqp_decoder.specs.Described.{OpensDescribed, open_left}
use Rattle.amqp_decoder.specs.OtherSource.{Setting, under, KeepsError}
use Rattle.amqp_decoder.specs.laws.OtherSource.{opens_described, open_described_placed}
use Rattle.amqp_decoder.proofs.Misspelled.{described_misspelled}
use Rattle.amqp_decoder.proofs.NothingInside.{nothing_described}
use Rattle.amqp_decoder.proofs.NotOutside.{open_described_not_outside}
use Rattle.amqp_decoder.proofs.Rooms.{room_in_described}
use Rattle.amqp_decoder.specs.Steps.{IsOutside}
use Rattle.amqp_decoder.specs.Places.{Located, At}
use Rattle.amqp_codec.specs.Faults.{Faults}
use Rattle.amqp_codec.specs.laws.Within.{open_within, described_shrinks}
use Rattle.std.proofs.Common.{◌≤◌, length, arith}

-- Why no described value is read: none is opened, or one is, and what it describes isn't read.
pub data DescribedValueFault (fault : State → Located → Type 0) (st : State) (e : Located) : Type 0 where
  unopened : At open_left st e → DescribedValueFault fault st e
  in_value : {d : Descriptor} {inner : State} → OpensDescribed st d inner → fault inner e → DescribedValueFault fault st e

module _ (f : Faults) where
  pub described_not_outside : {e : Located} → IsOutside e.error → (st : State) → DescribedValueFault f.fault st e → ⊥
  described_not_outside out st (unopened h) = open_described_not_outside out st h.0
  described_not_outside {e} out st (in_value {d} {inner} o h) = f.not_outside e out inner h

  pub described_elsewhere : (c : Setting) (st : State) (e : Located) → KeepsError c e.error → DescribedValueFault f.fault st e
      → DescribedValueFault f.fault (under c st) e
  described_elsewhere c st e k (unopened h) = unopened (open_described_placed c k h)
  described_elsewhere c st e k (in_value {d} {inner} o h) = in_value (opens_described c o) (f.fault_elsewhere c inner e k h)

  pub described_misspelled_in : (st : State) (e : Located) → HasRoom st → IsMisspelling e.error → DescribedValueFault f.fault st e
      → NothingStands st
  described_misspelled_in st e room i (unopened h) = described_misspelled st e.error i h.0
  described_misspelled_in st e room i (in_value {d} {inner} o h) =
      nothing_described st d inner o (f.misspelled inner e (room_in_described st d inner o) i h)

  pub described_within : (st : State) (e : Located) → DescribedValueFault f.fault st e → e.left ≤ length st.rest
  described_within st e (unopened h) = open_within st e h
  described_within st e (in_value {d} {inner} o h) = omega (arith, f.within inner e h, described_shrinks st d inner o)

  -- Why no value is read behind a descriptor of its own, by why what it describes isn't.
  abbrev pub described_faults : Faults
  described_faults = record {
    fault = DescribedValueFault f.fault;
    not_outside = λ e out. described_not_outside out;
    fault_elsewhere = described_elsewhere;
    misspelled = described_misspelled_in;
    within = described_within;
  }
