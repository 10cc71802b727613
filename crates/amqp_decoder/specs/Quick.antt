-- States in which a value may be read the quick way.
use Rattle.std.specs.Prelude.{◌≡◌, ◌<◌, ◌^◌, ◌⊎◌, ℕ, None}
use Rattle.std.specs.Int.{bytes_high_first}
use Rattle.amqp_decoder.specs.State.{State, Has}
use Rattle.amqp_decoder.specs.Steps.{Takes}
use Rattle.amqp_decoder.specs.Reading.{IsFirstShared, ReadsCode}

-- Nothing was refused, a value is left that shares no constructor, and one more may begin.
pub record IsPlain (st : State) : Type 0 where
  pub going : st.error ≡ None
  pub item : Has st.top.items 1
  pub own : st.top.shared ≡ None
  pub few : Has st.quota 1

-- Nothing was refused, an item is left in an array whose items have this code and no descriptor, and one more may begin.
pub record IsElement (code : ℕ) (st : State) : Type 0 where
  pub going : st.error ≡ None
  pub item : Has st.top.items 1
  pub shared : IsFirstShared st.top.shared code
  pub coded : 0 < code
  pub few : Has st.quota 1

-- One of the two codes and its size stood next, and were taken.
pub record ReadsLen (narrow wide : ℕ) (st : State) (n : ℕ) (st' : State) : Type 0 where
  pub code : ℕ
  pub mid : State
  pub begun : ReadsCode st code mid
  pub sized : ((code ≡ narrow) × (n < 256) × Takes mid (bytes_high_first 1 n) st')
      ⊎ ((code ≡ wide) × (n < 256 ^ 4) × Takes mid (bytes_high_first 4 n) st')
