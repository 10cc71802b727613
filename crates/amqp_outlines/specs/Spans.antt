-- The places of the values of a term.
use Rattle.std.specs.Prelude.{◌⊎◌, ℕ, ◌<◌, ◌≤◌, List}
use Rattle.std.specs.List.{All, AllPairs}
use Rattle.amqp_outlines.specs.declared.entry.Entry.{Entry}

-- The entry ends behind its begin, from one place to another.
pub record IsWithin (l n : ℕ) (e : Entry) : Type 0 where
  pub starts : l ≤ e.from
  pub begins : e.from ≤ e.to
  pub ends : e.to ≤ n

-- Of a value from one place to another, with so many entries around it: the entry ends before it, or is around it.
abbrev pub ComesBefore : ℕ → ℕ → ℕ → Entry → Type 0
ComesBefore depth from to e = (e.to ≤ from) ⊎ ((e.from ≤ from) × (to ≤ e.to) × (e.depth < depth))

-- The first entry ends before the second one, or is around it.
abbrev pub Precedes : Entry → Entry → Type 0
Precedes e f = ComesBefore f.depth f.from f.to e

-- The entries are from the place l to the place n, and each one ends before each later one or is around it.
pub record IsOutline (l n : ℕ) (entries : List Entry) : Type 0 where
  pub within : All (IsWithin l n) entries
  pub nested : AllPairs Precedes entries
