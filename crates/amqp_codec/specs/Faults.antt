-- Which errors a read may answer of what stands before a decoder.
use Rattle.std.specs.Prelude.{◌≤◌, length}
use Rattle.amqp_decoder.specs.State.{State}
use Rattle.amqp_decoder.specs.OtherSource.{Setting, under, KeepsError}
use Rattle.amqp_decoder.specs.Rooms.{HasRoom}
use Rattle.amqp_decoder.specs.Misspelled.{IsMisspelling, NothingStands}
use Rattle.amqp_decoder.specs.Steps.{IsOutside}
use Rattle.amqp_decoder.specs.Places.{Located}

pub record Faults : Type 1 where
  -- the error names a fault of what stands there, at its place
  pub fault : State → Located → Type 0
  -- it is neither want of memory nor the source's
  pub not_outside : (e : Located) → IsOutside e.error → (st : State) → fault st e → ⊥
  -- it hangs neither on the source nor, unless it is `Depth` or `Limit`, on how deep values may nest
  pub fault_elsewhere : (c : Setting) (st : State) (e : Located) → KeepsError c e.error → fault st e → fault (under c st) e
  -- where it says of bytes that they are no term, none stands there
  pub misspelled : (st : State) (e : Located) → HasRoom st → IsMisspelling e.error → fault st e → NothingStands st
  -- it stands in what is before the decoder, or at the end of that
  pub within : (st : State) (e : Located) → fault st e → e.left ≤ length st.rest

-- Of what isn't asked for.
abbrev pub no_faults : Faults
no_faults = record {
  fault = λ st e. ⊥;
  not_outside = λ e out st h. h;
  fault_elsewhere = λ c st e k h. h;
  misspelled = λ st e room i h. absurd h;
  within = λ st e h. absurd h;
}
