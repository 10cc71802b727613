-- Limits of the caller.
use Rattle.std.specs.Prelude.{ℕ, ◌^◌, ◌-◌, cond, eqb, Option, Some, None}

-- The number of bytes or of items that sets no limit: the greatest of 64 bits.
abbrev pub unlimited : ℕ
unlimited = 2 ^ 64 - 1

-- The limit that a number of bytes or of items sets.
abbrev pub limit_of : ℕ → Option ℕ
limit_of n = cond (eqb n unlimited) None (Some n)
