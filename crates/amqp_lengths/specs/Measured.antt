-- How many values bytes hold, how deep these nest, and what they weigh.
use Rattle.std.specs.Prelude.{◌≡◌, ℕ, ◌≤◌, ◌<◌, ◌^◌, ◌-◌, min, Bool, false, List, ◌++◌, length}
use Rattle.amqp_model.specs.Term.{Container, list, map, array, Term, Terms, container, count}
use Rattle.amqp_model.specs.Spelling.{AreItemsOf, AreElementsOf, IsSpelling}
use Rattle.amqp_model.specs.Measures.{nest, nodes, all_nodes, weight, weights}

-- The bytes spell a term of so many values, which nests so deep, and at most 128.
abbrev pub IsMeasured : ℕ → ℕ → List ℕ → Type 0
IsMeasured n k b = (t : Term) × IsSpelling b t × (nodes t ≡ n) × (nest t ≡ k) × (k ≤ 128)

-- A number, but at most the greatest that a u64 holds.
abbrev pub capped : ℕ → ℕ
capped n = min n (2 ^ 64 - 1)

-- The front of the input that is a term is so long, and holds so much.
abbrev pub Begins : (Term → List ℕ → Type 0) → List ℕ → ℕ → ℕ → ℕ → ℕ → Type 0
Begins Is input len n k w =
    (t : Term) (front after : List ℕ) → input ≡ front ++ after → Is t front
    → (length front ≡ len) × (nodes t ≡ n) × (nest t ≡ k) × (capped (weight t false) ≡ w)

-- So many terms, of which the bytes are the items, hold so much, and what they stand in nests so deep. The Bool says whether they share
-- their constructor.
abbrev pub AllMeasured : (Terms → List ℕ → Type 0) → (Terms → ℕ) → Bool → ℕ → List ℕ → ℕ → ℕ → ℕ → Type 0
AllMeasured Items depth sharing size b n k w =
    (ts : Terms) → count ts ≡ size → Items ts b → (all_nodes ts ≡ n) × (depth ts ≡ k) × (capped (weights ts sharing) ≡ w)

-- Numbers of the code hold how much there is.
abbrev pub Fits : ℕ → ℕ → Type 0
Fits n k = (n < 2 ^ 64) × (k ≤ 128)

-- The input begins with a term whose measures fit.
abbrev pub Measurable : (Term → List ℕ → Type 0) → List ℕ → Type 0
Measurable Is input = (t : Term) × (front after : List ℕ) × (input ≡ front ++ after) × Is t front × Fits (nodes t) (nest t)

-- The bytes are so many items whose measures fit.
abbrev pub AllMeasurable : (Terms → List ℕ → Type 0) → (Terms → ℕ) → ℕ → List ℕ → Type 0
AllMeasurable Items depth size b = (ts : Terms) × (count ts ≡ size) × Items ts b × Fits (all_nodes ts) (depth ts)

-- The content of a container.
abbrev pub contents : Container → Terms → List ℕ → Type 0
contents list ts b = AreItemsOf ts b
contents map ts b = AreItemsOf ts b
contents array ts b = AreElementsOf ts b

abbrev pub content_nest : Container → Terms → ℕ
content_nest kind ts = nest (container kind ts)
