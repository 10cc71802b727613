-- What is read one after another, and in a container.
use Rattle.std.specs.Prelude.{◌≡◌, ℕ, List, [], ◌∷◌, ◌++◌, length}
use Rattle.amqp_model.specs.Standing.{Standing, Parts}
use Rattle.amqp_model.specs.Term.{Container, Descriptor, Term}
use Rattle.amqp_decoder.specs.declared.frame.Place.TheVariants.{InArray, InDescribed}
use Rattle.amqp_decoder.specs.State.{State, after_value, weight_at}
use Rattle.amqp_decoder.specs.Primitives.{standing, Stands}
use Rattle.amqp_decoder.specs.Containers.{place_of, Opens, Closes, ClosesDescribed}
use Rattle.amqp_decoder.specs.Described.{OpensDescribed}
use Rattle.amqp_decoder.specs.Arrays.{OpensArray}

-- The term stood next, and was taken.
pub record Next (st : State) (t : Term) (st' : State) : Type 0 where
  pub bytes : List ℕ
  pub stands : Stands st bytes t
  pub moved : st' ≡ after_value (length bytes) (weight_at st t) st

-- The terms stood next, one after another, as these bytes, and were taken.
abbrev pub Row : State → List Term → List ℕ → State → Type 0
Row st [] b st' = (b ≡ []) × (st' ≡ st)
Row st (t ∷ ts) b st' = (first others : List ℕ) × (b ≡ first ++ others) × Stands st first t
    × Row (after_value (length first) (weight_at st t) st) ts others st'

-- How the terms of a row stand.
abbrev pub row_standings : (st : State) (ts : List Term) (b : List ℕ) (st' : State) → Row st ts b st' → List Standing
row_standings st [] b st' row = []
row_standings st (t ∷ ts) b st' (first, others, e, k, row) =
    standing st.top.shared first ∷ row_standings (after_value (length first) (weight_at st t) st) ts others st' row

-- The term stood next, with its parts so, and was taken.
pub record NextWithParts (st : State) (t : Term) (ss : List Standing) (st' : State) : Type 0 where
  pub next : Next st t st'
  pub parts : Parts (standing st.top.shared next.bytes) t ss

-- A container of this kind was opened, these terms were taken in it, and it was closed.
pub record Contains (kind : Container) (st : State) (ts : List Term) (st' : State) : Type 0 where
  pub count : ℕ
  pub mid : State
  pub opened : Opens kind st count mid
  pub bytes : List ℕ
  pub last : State
  pub items : Row mid ts bytes last
  pub closed : Closes (place_of kind) last st'

-- An array was opened, these terms were taken in it, under the constructor that they share, and it was closed.
pub record ContainsArray (st : State) (ts : List Term) (st' : State) : Type 0 where
  pub count : ℕ
  pub mid : State
  pub opened : OpensArray st count mid
  pub bytes : List ℕ
  pub last : State
  pub items : Row mid ts bytes last
  pub closed : Closes InArray last st'

-- A value with this descriptor was opened, the term was taken in it, and it was closed.
pub record DescribedStands (st : State) (d : Descriptor) (t : Term) (st' : State) : Type 0 where
  pub inner : State
  pub opens : OpensDescribed st d inner
  pub bytes : List ℕ
  pub stands : Stands inner bytes t
  pub closes : ClosesDescribed InDescribed (after_value (length bytes) (weight_at inner t) inner) st'
