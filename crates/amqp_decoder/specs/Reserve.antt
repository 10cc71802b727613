-- What a decoder leaves in its source that reads one term within a limit on bytes.
use Rattle.std.specs.Prelude.{◌≡◌, ◌≤◌, ◌<◌, ◌+◌, ℕ, true, false, List, [], ◌∷◌, length, Option, Some}
use Rattle.amqp_decoder.specs.State.{Open, State}

-- The limit and the sizes of these containers leave at most so many bytes together.
abbrev pub Owes : List Open → ℕ → Type 0
Owes [] most = Unit {0}
Owes (f ∷ fs) most = (own : ℕ) × (others : ℕ) × (f.left ≡ Some own) × Owes fs others × (own + others ≤ most)

-- Of so many bytes to the end of the input the reserve stays, where some were looked at, n are taken, and then all that the limit
-- and the open containers leave.
pub record Spared (reserve n there ahead : ℕ) (fs : List Open) : Type 0 where
  pub seen : ahead + reserve ≤ there
  pub most : ℕ
  pub owed : Owes fs most
  pub fits : most + n + reserve ≤ there

-- A decoder that reads one term alone leaves the reserve, also where n bytes are taken that aren't counted any more; unless its
-- source has failed.
abbrev pub Spares : ℕ → ℕ → State → Type 0
Spares reserve n st = st.failed.alone ≡ true → st.failed.broken ≡ false → 0 < reserve
    → Spared reserve n (length st.rest) st.ahead (st.top ∷ st.saved)

-- A limit on bytes leaves the reserve of so many bytes, if there is one.
abbrev pub Leaves : ℕ → Option ℕ → ℕ → Type 0
Leaves reserve limit there = 0 < reserve → (most : ℕ) × (limit ≡ Some most) × (most + reserve ≤ there)

-- The next n bytes may be looked at.
abbrev pub Shows : ℕ → ℕ → State → Type 0
Shows reserve n st = st.failed.alone ≡ true → st.failed.broken ≡ false → 0 < reserve → n + reserve ≤ length st.rest
