-- Sources that tell their bytes.
use Rattle.std.specs.Prelude.{◌≡◌, ℕ, List, [], ◌++◌, length, Option, Some, None}
use Rattle.std.specs.Io.KnownBytes.{Consumes}

-- The bytes that are told, and otherwise none.
abbrev pub known : Option (List ℕ) → List ℕ
known None = []
known (Some s) = s

-- The bytes are told.
abbrev pub IsTold : Option (List ℕ) → Type 0
IsTold o = (r : List ℕ) × (o ≡ Some r)

-- Each source of the type tells its bytes.
abbrev pub Tells : {A : Type 0} → (A → Option (List ℕ)) → Type 0
Tells {A} remaining = (s : A) → IsTold (remaining s)

-- The source's next n bytes were taken, and added behind those before.
abbrev pub AddsNext : Option (List ℕ) → Option (List ℕ) → ℕ → List ℕ → List ℕ → Type 0
AddsNext old new n before after = (s : List ℕ) × (length s ≡ n) × (after ≡ before ++ s) × Consumes old new s
