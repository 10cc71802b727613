-- How deep a term nests, how many values it has, and what it takes of a limit on them: measures of this project, of which Part 1 says
-- nothing.
use Rattle.std.specs.Prelude.{ℕ, suc, ◌+◌, ◌/◌, max, Bool, true, false, List, [], ◌∷◌, length}
use Rattle.amqp_model.specs.Term.{Container, list, map, array, Term, Terms, leaf, container, described, kept, barred, none, more}
use Rattle.amqp_model.specs.Term.{Descriptor, name, code}

-- The greatest number of nested values on a path: described values, lists and maps count,
-- and an array counts if one of its items is no primitive.
abbrev mutual
  pub nest : Term → ℕ
  nest (leaf p) = 0
  nest (container list ts) = suc (nests ts)
  nest (container map ts) = suc (nests ts)
  nest (container array ts) = array_nest ts
  nest (described d t) = suc (nest t)
  nest (kept b) = 0
  nest (barred r) = 0

  pub nests : Terms → ℕ
  nests none = 0
  nests (more t ts) = max (nest t) (nests ts)

  pub array_nest : Terms → ℕ
  array_nest none = 0
  array_nest (more (container k us) ts) = suc (max (nest (container k us)) (nests ts))
  array_nest (more (described d t) ts) = suc (max (nest (described d t)) (nests ts))
  array_nest (more _ ts) = array_nest ts

-- The values in a term; a described value is one with its descriptor.
abbrev mutual
  pub nodes : Term → ℕ
  nodes (container k ts) = suc (all_nodes ts)
  nodes (described d t) = nodes t
  nodes _ = 1

  pub all_nodes : Terms → ℕ
  all_nodes none = 0
  all_nodes (more t ts) = nodes t + all_nodes ts

-- What each item of an array takes for a descriptor that the items share: one, and one for each whole 32 bytes of its name.
abbrev pub share : Descriptor → ℕ
share (name s) = suc (length s / 32)
share (code n) = 1

abbrev pub shares : List Descriptor → ℕ
shares [] = 0
shares (d ∷ ds) = share d + shares ds

-- Whether the items of a container share their constructor.
abbrev pub is_sharing : Container → Bool
is_sharing list = false
is_sharing map = false
is_sharing array = true

-- What a term takes of a limit on items: one for each of its values, and what each item of an array does for the descriptors that it
-- shares. The Bool says whether the term itself is such an item.
abbrev mutual
  pub weight : Term → Bool → ℕ
  weight (container k ts) s = suc (weights ts (is_sharing k))
  weight (described d t) false = weight t false
  weight (described d t) true = share d + weight t true
  weight (leaf p) s = 1
  weight (kept b) s = 1
  weight (barred r) s = 1

  pub weights : Terms → Bool → ℕ
  weights none s = 0
  weights (more t ts) s = weight t s + weights ts s

-- The sum of a number over all descriptors in a term.
abbrev mutual
  pub over_descriptors : (Descriptor → ℕ) → Term → ℕ
  over_descriptors f (container k ts) = over_all_descriptors f ts
  over_descriptors f (described d t) = f d + over_descriptors f t
  over_descriptors f (leaf p) = 0
  over_descriptors f (kept b) = 0
  over_descriptors f (barred r) = 0

  pub over_all_descriptors : (Descriptor → ℕ) → Terms → ℕ
  over_all_descriptors f none = 0
  over_all_descriptors f (more t ts) = over_descriptors f t + over_all_descriptors f ts

-- The bytes of a descriptor's name.
abbrev pub name_length : Descriptor → ℕ
name_length (name s) = length s
name_length (code n) = 0
