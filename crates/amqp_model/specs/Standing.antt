-- In which bytes the parts of a term stand, for values that keep their bytes.
use Rattle.std.specs.Prelude.{◌≡◌, ℕ, List, [], ◌∷◌, ◌++◌}
use Rattle.amqp_model.specs.Term.{list, map, array, Term, Terms, leaf, container, described, none, more, Descriptor, count}
use Rattle.amqp_model.specs.Constructors.{format}
use Rattle.amqp_model.specs.Spelling.{ContainerData, Names, Spelled, IsDataOf, IsSpelling}

-- How a term stands: as bytes of its own, or as data under a constructor that it shares.
pub data Standing : Type 0 where
  whole : List ℕ → Standing
  part : List Descriptor → ℕ → List ℕ → Standing

-- Part 1, section 1.2.3: b is the items of a list or map, which stand so.
abbrev pub StandWhole : Terms → List Standing → List ℕ → Type 0
StandWhole none ss b = (b ≡ []) × (ss ≡ [])
StandWhole (more t ts) ss b =
    (first second : List ℕ) × (others : List Standing) × (b ≡ first ++ second) × IsSpelling first t × StandWhole ts others second
    × (ss ≡ whole first ∷ others)

-- Part 1, section 1.2.4: b is the data of an array's items, which stand so.
abbrev pub StandAsData : Terms → List Standing → List Descriptor → ℕ → List ℕ → Type 0
StandAsData none ss ds c b = (b ≡ []) × (ss ≡ [])
StandAsData (more t ts) ss ds c b =
    (first second : List ℕ) × (others : List Standing) × (b ≡ first ++ second) × IsDataOf t ds c first × StandAsData ts others ds c second
    × (ss ≡ part ds c first ∷ others)

abbrev pub StandInArray : Terms → List Standing → List ℕ → Type 0
StandInArray none ss b = ss ≡ []
StandInArray (more t ts) ss b = Spelled (StandAsData (more t ts) ss) b

-- The parts of a term stand so in its data. What is described stands as data too.
abbrev pub StandIn : Term → List Standing → List Descriptor → ℕ → List ℕ → Type 0
StandIn (leaf p) ss ds c b = ss ≡ []
StandIn (container list ts) ss ds c b = ContainerData (format c) list (count ts) (StandWhole ts ss) b
StandIn (container map ts) ss ds c b = ContainerData (format c) map (count ts) (StandWhole ts ss) b
StandIn (container array ts) ss ds c b = ContainerData (format c) array (count ts) (StandInArray ts ss) b
StandIn (described d t) ss (e ∷ ds) c b = ss ≡ part ds c b ∷ []
StandIn _ ss ds c b = ⊥

-- The parts of a term stand so where the term stands so.
abbrev pub Parts : Standing → Term → List Standing → Type 0
Parts (whole b) (described d t) ss = (first second : List ℕ) × (b ≡ 0 ∷ (first ++ second)) × Names d first × (ss ≡ whole second ∷ [])
Parts (whole b) t ss = Spelled (StandIn t ss) b
Parts (part ds c b) t ss = StandIn t ss ds c b
