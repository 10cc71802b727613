-- Which bytes spell a value, where others follow them (Part 3, section 3.2).
use Rattle.std.specs.Prelude.{◌↔◌, ◌≡◌, ℕ, ◌≤◌, List, [], ◌∷◌, ◌++◌, length, take, drop}
use Rattle.amqp_lookahead.specs.Sections.{IsSectionAhead}
use Rattle.amqp_codec.specs.TermType.{TermType}
use Rattle.amqp_codec.specs.Reading.{Reading, BeginsWith}
use Rattle.amqp_codec.specs.Spelled.{IsSpelled}
use Rattle.amqp_batches.specs.declared.transparent_vec.TransparentVec.{TransparentVec}
use Rattle.amqp_batches.specs.Batches.{sections_in}

-- The bytes, the value that they spell, and the bytes that follow.
abbrev pub Spells : Type 0 → Type 1
Spells T = List ℕ → T → List ℕ → Type 0

-- The first n bytes of the input spell the value.
abbrev pub Begins : {T : Type 0} → Spells T → List ℕ → T → ℕ → Type 0
Begins spells input v n = (n ≤ length input) × spells (take n input) v (drop n input)

-- A value is read from the first bytes of an input exactly if they spell it.
abbrev pub IsReadExactly : {T : Type 0} → Reading T → Spells T → Type 0
IsReadExactly {T} r spells = (input : List ℕ) (v : T) (n : ℕ) → BeginsWith r input v n ↔ Begins spells input v n

-- One term that means the value, whatever follows.
abbrev pub IsTerm : {T : Type 0} → TermType T → Spells T
IsTerm u b v more = IsSpelled u b v

-- They begin with the descriptor of the section with this code.
abbrev pub IsSection : {T : Type 0} → ℕ → Spells T → Spells T
IsSection c spells b v more = IsSectionAhead (b ++ more) c × spells b v more

-- These values, one after another.
abbrev pub Are : {T : Type 0} → Spells T → Spells (List T)
Are spells b [] more = b ≡ []
Are spells b (v ∷ vs) more =
    (first others : List ℕ) × (b ≡ first ++ others) × spells first v (others ++ more) × Are spells others vs more

-- Sections of one kind, as many as there are.
abbrev pub IsRun : {T : Type 0} → ℕ → Spells T → Spells (List T)
IsRun c spells b vs more = Are (IsSection c spells) b vs more × (IsSectionAhead more c → ⊥)

-- The same as one value.
abbrev pub IsBatch : {T : Type 0} → ℕ → Spells T → Spells (TransparentVec T)
IsBatch c spells b batch more = IsRun c spells b (sections_in batch) more
