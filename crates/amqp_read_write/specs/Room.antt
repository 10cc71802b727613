-- Memory of the caller, and a text that is put there.
use Rattle.std.specs.Prelude.{◌≡◌, ◌⊎◌, ℕ, ◌<◌, ◌≤◌, List, ◌++◌, length, drop}

-- The text stands at the start of the room, and what is behind it stays.
abbrev pub StandsIn : List ℕ → List ℕ → List ℕ → Type 0
StandsIn text old new = (length text ≤ length old) × (new ≡ text ++ drop (length text) old)

-- There is no room for the text, and the room stays as it is.
abbrev pub HasNoRoom : List ℕ → List ℕ → List ℕ → Type 0
HasNoRoom text old new = (length old < length text) × (new ≡ old)

-- One of the two holds, and the text is so long.
abbrev pub IsPlaced : List ℕ → List ℕ → List ℕ → ℕ → Type 0
IsPlaced text old new len = (len ≡ length text) × (StandsIn text old new ⊎ HasNoRoom text old new)
