-- What an input has before it.
use Rattle.std.specs.Prelude.{ℕ, ◌+◌, ◌-◌, ◌%◌, ◌^◌, Bool, List, length, take, drop, max, cond}

-- name: the borrow that a source is
-- size: how many bytes it had at first, as a number of 64 bits
pub record Origin : Type 0 where
  pub name : ℕ
  pub size : ℕ

-- A source with this name that has these bytes.
abbrev pub origin_of : ℕ → List ℕ → Origin
origin_of name bytes = record { name = name; size = length bytes % 2 ^ 64 }

-- rest: the bytes to the end of the input
-- ahead: how many of them were looked at
-- source: the source
-- failed: the source has failed
pub record State : Type 0 where
  pub rest : List ℕ
  pub ahead : ℕ
  pub source : Origin
  pub failed : Bool

-- The bytes of a buffer that were looked at and aren't taken.
abbrev pub pending : ℕ → ℕ → List ℕ → List ℕ
pending start end_ looked = take (end_ - start) (drop start looked)

-- The next n bytes were looked at: none of them is taken.
abbrev pub after_look : ℕ → State → State
after_look n st = record st { ahead = max st.ahead n }

-- n bytes are taken.
abbrev pub after_bytes : ℕ → State → State
after_bytes n st = record st { rest = drop n st.rest; ahead = st.ahead - n }

-- How many bytes of a whole source were looked at, of which so many of the last weren't.
abbrev pub seen_of : Bool → List ℕ → ℕ → ℕ
seen_of whole rest unseen = cond whole (length rest - unseen) 0

-- How many bytes a source had at first: it had so many, if it is whole; else so many were taken, and these are the rest.
abbrev pub size_of : Bool → ℕ → List ℕ → ℕ
size_of whole count rest = cond whole count ((count + length rest) % 2 ^ 64)
