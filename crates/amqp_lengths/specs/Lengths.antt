-- Terms, and the parts of terms that recur in one another.
use Rattle.std.specs.Prelude.{◌≡◌, ℕ, zero, suc, ◌≤◌, ◌<◌, ◌+◌, ◌%◌, ◌||◌, cond, eqb, nat_lt, leb, List, [], ◌∷◌, ◌++◌, length}
use Rattle.amqp_model.specs.Term.{Container, list, map, array, Term, Terms, Descriptor, count}
use Rattle.amqp_model.specs.Constructors.{compound}
use Rattle.amqp_model.specs.Spelling.{Joined, ContainerData, Names, Constructor, IsDataOf, AreItemsOf, AreElementsOf, IsSpelling}
use Rattle.amqp_model.specs.Measures.{nest, nests, array_nest}

-- Descriptors, each after a 0.
abbrev pub Marks : List Descriptor → List ℕ → Type 0
Marks [] b = b ≡ []
Marks (d ∷ ds) b = (first second : List ℕ) × (b ≡ 0 ∷ (first ++ second)) × Names d first × Marks ds second

-- n descriptors.
abbrev pub HasMarks : ℕ → List ℕ → Type 0
HasMarks n b = (ds : List Descriptor) × (length ds ≡ n) × Marks ds b

-- A constructor of so many descriptors and this code.
abbrev pub Constructs : ℕ → ℕ → List ℕ → Type 0
Constructs n c b = (ds : List Descriptor) × (length ds ≡ n) × (n ≤ 128) × Constructor ds c b

abbrev pub HasConstructor : List ℕ → Type 0
HasConstructor b = (n c : ℕ) × Constructs n c b

-- A term that nests at most so deep.
abbrev pub IsTerm : ℕ → List ℕ → Type 0
IsTerm nesting b = (t : Term) × IsSpelling b t × (nest t ≤ nesting)

-- The data under a code of a term without descriptors that nests at most so deep.
abbrev pub IsData : ℕ → ℕ → List ℕ → Type 0
IsData c nesting b = (t : Term) × IsDataOf t [] c b × (nest t ≤ nesting)

-- n pieces that are P, one after another.
abbrev pub Row : (List ℕ → Type 0) → ℕ → List ℕ → Type 0
Row P zero b = b ≡ []
Row P (suc n) b = Joined P (Row P n) b

-- A map has a value for each key.
abbrev pub HasPairs : Container → ℕ → Type 0
HasPairs map n = n % 2 ≡ 0
HasPairs list n = Unit {0}
HasPairs array n = Unit {0}

-- The data of a list or map of a width whose items nest below so deep.
abbrev pub IsContainer : Container → ℕ → ℕ → List ℕ → Type 0
IsContainer kind w nesting b =
    (ts : Terms) × (nests ts < nesting) × HasPairs kind (count ts) × ContainerData (compound kind w) kind (count ts) (AreItemsOf ts) b

-- The content of an array of n items.
abbrev pub HasElements : ℕ → ℕ → List ℕ → Type 0
HasElements nesting n b = (ts : Terms) × (count ts ≡ n) × AreElementsOf ts b × (array_nest ts ≤ nesting)

-- The data of an array of a width.
abbrev pub IsArray : ℕ → ℕ → List ℕ → Type 0
IsArray w nesting b = (ts : Terms) × (array_nest ts ≤ nesting) × ContainerData (compound array w) array (count ts) (AreElementsOf ts) b

-- How many levels lie between an array and the bare data of its items under a constructor of so many descriptors and
-- this code.
abbrev pub levels_of : ℕ → ℕ → ℕ
levels_of n c = n + cond (nat_lt 0 n || (eqb c 0x45 || leb 0xc0 c)) 1 0

-- The input is a proper front of a term.
abbrev pub IsCutTerm : ℕ → List ℕ → Type 0
IsCutTerm nesting input =
    (more : List ℕ) × (t : Term) × (more ≡ [] → ⊥) × IsSpelling (input ++ more) t × (nest t ≤ nesting)
