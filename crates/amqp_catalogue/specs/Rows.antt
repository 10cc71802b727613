-- Rows that list the values of an enum in its order, each with its name.
use Rattle.std.specs.Prelude.{ℕ, ◌+◌, Bool, ◌&&◌, eqb, List, [], ◌∷◌, length}
use Rattle.std.specs.Borrow.{Bor}
use Rattle.std.specs.Str.{bytes_eq}
use denote.Enum.Declared.{Declared, tag_of}

abbrev pub in_order : (D : Declared) → (D.D → List ℕ) → ℕ → List (Bor (List ℕ) × D.D) → Bool
in_order D name i [] = eqb i (length D.parts)
in_order D name i (row ∷ rows) = eqb (tag_of D row.1) i && (bytes_eq (name row.1) row.0.now && in_order D name (i + 1) rows)

abbrev pub has_name : {X : Type 0} → List ℕ → Bor (List ℕ) × X → Bool
has_name name row = bytes_eq row.0.now name

-- The number of a value of an enum: its place among them, from 1 on.
abbrev pub number_in : (D : Declared) → D.D → ℕ
number_in D v = tag_of D v + 1
