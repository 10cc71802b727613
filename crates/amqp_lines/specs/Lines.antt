-- The lines of an input, each ended by a line feed, which the last may lack.
use Rattle.std.specs.Prelude.{◌≡◌, ◌⊎◌, ℕ, Bool, true, false, List, [], ◌∷◌, ◌++◌}

-- No byte is c.
abbrev pub HasNo : ℕ → List ℕ → Type 0
HasNo c [] = Unit {0}
HasNo c (b ∷ bs) = (b ≡ c → ⊥) × HasNo c bs

-- The input begins with this line, and the rest follows it.
abbrev pub TakesLine : List ℕ → List ℕ → List ℕ → Type 0
TakesLine input line rest = HasNo 10 line × ((input ≡ line ++ (10 ∷ rest)) ⊎ ((input ≡ line) × (rest ≡ []) × (line ≡ [] → ⊥)))

-- A piece of a line, with the line feed if that is its end.
abbrev pub with_feed : Bool → List ℕ → List ℕ
with_feed true piece = piece ++ (10 ∷ [])
with_feed false piece = piece
