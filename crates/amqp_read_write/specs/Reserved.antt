-- What stays in a reader.
use Rattle.std.specs.Prelude.{◌≡◌, ◌-◌, ℕ, Bool, true, List, length, drop, Option, Some}

-- Of so many bytes those behind the limit stay, where one term is read.
abbrev pub reserved : Bool → Option ℕ → ℕ → ℕ
reserved true (Some l) there = there - l
reserved _ _ there = 0

-- Some bytes were taken, and these are left.
abbrev pub IsRestOf : List ℕ → List ℕ → Type 0
IsRestOf origin left = left ≡ drop (length origin - length left) origin
