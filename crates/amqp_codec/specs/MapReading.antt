-- How a map is read: its pairs, one after another (Part 1, section 1.6.23).
use Rattle.std.specs.Prelude.{◌≡◌, ℕ, ◌*◌, ◌<◌, List, [], ◌∷◌, length}
use Rattle.amqp_model.specs.Term.{map}
use Rattle.amqp_wire.specs.declared.error.Error.TheVariants.{DuplicateKey}
use Rattle.amqp_decoder.specs.declared.frame.Place.TheVariants.{InMap}
use Rattle.amqp_decoder.specs.State.{State}
use Rattle.amqp_decoder.specs.Primitives.{ReadsValue}
use Rattle.amqp_decoder.specs.Containers.{Opens, OpenFault, Closes, CloseFault}
use Rattle.amqp_decoder.specs.Places.{Located, Here}
use Rattle.amqp_codec.specs.TermType.{TermType}
use Rattle.amqp_codec.specs.Pairs.{IsNew, HaveOtherKeys}

-- The pairs were read one after another, each key before its value.
abbrev pub ReadsPairs : {K V : Type 0} → (State → K → State → Type 0) → (State → V → State → Type 0) → State → List (K × V) → State → Type 0
ReadsPairs keys values st [] b = b ≡ st
ReadsPairs keys values st (p ∷ ps) b = (m n : State) × keys st p.0 m × values m p.1 n × ReadsPairs keys values n ps b

module _ {K V : Type 0} (key : TermType K) (value : TermType V) where
  abbrev pub Pairs : State → List (K × V) → State → Type 0
  Pairs = ReadsPairs (ReadsValue key.means) (ReadsValue value.means)

  -- So many pairs were read, no two of which have the same key.
  pub record ReadsPairsRow (n : ℕ) (st : State) (ps : List (K × V)) (b : State) : Type 0 where
    pub long : length ps ≡ n
    pub each : Pairs st ps b
    pub others : HaveOtherKeys key.same ps

  -- Fewer were read.
  pub record ReadsFewer (n : ℕ) (st : State) (ps : List (K × V)) (mid : State) : Type 0 where
    pub fewer : length ps < n
    pub each : Pairs st ps mid

  -- Why so many aren't read: behind fewer that are, the next key isn't; or it is one of theirs, no two of which are the same, which may be
  -- told behind all that are read; or its value isn't.
  pub data PairsFault (n : ℕ) (st : State) (e : Located) : Type 0 where
    at_key : (ps : List (K × V)) (mid : State) → ReadsFewer n st ps mid → key.faults.fault mid e → PairsFault n st e
    twice : (ps : List (K × V)) (mid after : State) (k : K) → ReadsFewer n st ps mid → HaveOtherKeys key.same ps
        → ReadsValue key.means mid k after → (IsNew key.same k ps → ⊥) → e.error ≡ DuplicateKey → e.left ≡ length mid.rest
        → PairsFault n st e
    told_twice : (all : List (K × V)) (b : State) (ps : List (K × V)) (mid after : State) (k : K) → Pairs st all b → ReadsFewer n st ps mid
        → HaveOtherKeys key.same ps → ReadsValue key.means mid k after → (IsNew key.same k ps → ⊥) → e.error ≡ DuplicateKey
        → e.left ≡ length b.rest → PairsFault n st e
    at_value : (ps : List (K × V)) (mid after : State) (k : K) → ReadsFewer n st ps mid → ReadsValue key.means mid k after
        → value.faults.fault after e → PairsFault n st e

  -- A map of so many pairs was opened, they were read, and it was closed.
  pub record MapRead (st : State) (ps : List (K × V)) (b : State) : Type 0 where
    pub pairs : ℕ
    pub first : State
    pub opened : Opens map st (2 * pairs) first
    pub last : State
    pub row : ReadsPairsRow pairs first ps last
    pub closed : Closes InMap last b

  -- Why none is read: none is opened; or its pairs aren't read; or it isn't closed behind them.
  pub data MapFault (st : State) (e : Located) : Type 0 where
    unopened : Here (OpenFault map) st e → MapFault st e
    at_pair : {n : ℕ} {first : State} → Opens map st (2 * n) first → PairsFault n first e → MapFault st e
    unclosed : {n : ℕ} {first : State} {ps : List (K × V)} {last : State} → Opens map st (2 * n) first → ReadsPairsRow n first ps last
        → Here (CloseFault InMap) last e → MapFault st e
