-- Data that is as long as the format of its code announces, and data that isn't all there.
use Rattle.std.specs.Prelude.{◌≡◌, ℕ, zero, ◌<◌, ◌^◌, ◌⊎◌, List, ◌++◌, length}
use Rattle.std.specs.Int.{bytes_high_first}
use Rattle.amqp_model.specs.Term.{Container, list}
use Rattle.amqp_model.specs.Constructors.{Format, fixed, variable, compound, unknown}

-- A size of this width, and what stands behind it, of which P holds.
abbrev pub SizeThen : ℕ → (ℕ → List ℕ → Type 0) → List ℕ → Type 0
SizeThen w P b = (size : ℕ) × (behind : List ℕ) × (size < 256 ^ w) × (b ≡ bytes_high_first w size ++ behind) × P size behind

-- How many bytes belong behind the size of a container whose count has this width: as many as it says. A list whose size
-- is 0 has its count there nevertheless.
abbrev pub content_size : Container → ℕ → ℕ → ℕ
content_size list w zero = w
content_size kind w size = size

-- Part 1, section 1.2: the data is as long as its format announces. The code of the empty list announces no bytes.
abbrev pub IsAnnounced : Format → List ℕ → Type 0
IsAnnounced (fixed w value) b = length b ≡ w
IsAnnounced (variable w value) b = SizeThen w (λ size behind. length behind ≡ size) b
IsAnnounced (compound kind w) b = SizeThen w (λ size behind. length behind ≡ content_size kind w size) b
IsAnnounced unknown b = ⊥

-- Fewer bytes follow than a size and what it announces.
abbrev pub WantsSized : ℕ → (ℕ → ℕ) → List ℕ → Type 0
WantsSized w announced b = (length b < w) ⊎ SizeThen w (λ size behind. length behind < announced size) b

-- The input ends before the data does that the format announces.
abbrev pub Wants : Format → List ℕ → Type 0
Wants (fixed w value) b = length b < w
Wants (variable w value) b = WantsSized w (λ size. size) b
Wants (compound kind w) b = WantsSized w (content_size kind w) b
Wants unknown b = ⊥
