-- What is read at the top level one thing after another: the sections of a batch, the groups of a message (Part 3, section 3.2).
use Rattle.std.specs.Prelude.{◌≡◌, ℕ, zero, suc, ◌+◌, ◌≤◌, Bool, true, false, List, [], length, None}
use Rattle.amqp_wire.specs.declared.error.Error.{Error}
use Rattle.amqp_lookahead.specs.Sections.{IsSectionAhead}
use Rattle.amqp_decoder.specs.declared.frame.Place.TheVariants.{Top}
use Rattle.amqp_decoder.specs.State.{Source, State}
use Rattle.amqp_decoder.specs.Steps.{IsOutside}
use Rattle.amqp_decoder.specs.Sections.{NotTop}
use Rattle.amqp_decoder.specs.OtherSource.{elsewhere}
use Rattle.amqp_decoder.specs.Places.{Located, Here}
use Rattle.amqp_codec.specs.Reading.{Taken, Stays, looking, AreAlike}

-- No error was kept, nothing is open, and what stands next may be looked at.
abbrev pub IsAtTop : State → Type 0
IsAtTop st = (st.error ≡ None) × (st.top.place ≡ Top) × (st.saved ≡ []) × (st.failed.alone ≡ false)

-- A section of this code comes next there.
abbrev pub IsNext : ℕ → State → Type 0
IsNext c st = IsAtTop st × IsSectionAhead st.rest c

-- What a step leaves: so many values were read before it, and so many after.
pub record Leaves (st : State) (before after : ℕ) (b : State) : Type 0 where
  pub top : IsAtTop st
  pub stays : Stays st b
  pub taken : Taken true st b
  pub counted : st.top.shared ≡ None → after + length b.rest ≤ before + length st.rest

-- M: what was read so far; V: what is made of it
pub record Walk (M V : Type 0) : Type 1 where
  -- one step, from where so much was read to where so much more was
  pub step : State → M → M → State → Type 0
  -- the error names a fault of the step that comes next, at its place
  pub fault : State → M → Located → Type 0
  -- no step comes next before these bytes
  pub done : M → List ℕ → Type 0
  -- nothing was read
  pub blank : M
  -- what is made at the end, or why nothing is
  pub finish : M → V → Type 0
  pub unfinished : M → Error → Type 0
  pub takes_memory : Bool
  -- the two differ at most in where they lie in memory
  pub alike : M → M → Type 0
  pub same : V → V → Type 0
  -- the values in it
  pub weight : M → ℕ
  pub count : V → ℕ
  -- the laws
  pub same_sym : (v w : V) → same v w → same w v
  pub same_trans : (v w x : V) → same v w → same w x → same v x
  pub alike_sym : (m n : M) → alike m n → alike n m
  pub blank_alike : alike blank blank
  pub blank_weight : weight blank ≡ 0
  -- one step comes next at most, and it doesn't hang on how far was looked, nor on the source
  pub step_one : (st : State) (m n x y : M) (a b : State) → alike m n → step st m x a → step st n y b → alike x y × AreAlike a b
  pub step_looked : (k : ℕ) (st : State) (m x : M) (b : State) → step st m x b → (j : ℕ) × step (looking k st) m x (looking j b)
  pub step_elsewhere : (source : Source) (failed : Bool) (st : State) (m x : M) (b : State) → step st m x b
      → step (elsewhere source failed st) m x (elsewhere source failed b)
  pub step_leaves : (st : State) (m x : M) (b : State) → step st m x b → Leaves st (weight m) (weight x) b
  -- where none comes next, none is made
  pub done_ends : (st : State) (m n x : M) (b : State) → alike m n → step st m x b → done n st.rest → ⊥
  pub done_alike : (m n : M) (rest : List ℕ) → alike m n → done m rest → done n rest
  -- one value is made at most, or there is a reason why none is
  pub finish_one : (m n : M) (v w : V) → alike m n → finish m v → finish n w → same v w
  pub finish_counted : (m : M) (v : V) → finish m v → count v ≤ weight m
  pub finish_or : (m n : M) (v : V) (e : Error) → alike m n → finish m v → unfinished n e → ⊥
  -- of the faults
  pub fault_elsewhere : (source : Source) (failed : Bool) (st : State) (m : M) (e : Located) → fault st m e
      → fault (elsewhere source failed st) m e
  pub not_outside : (e : Located) → IsOutside e.error → (st : State) (m : M) → fault st m e → ⊥
  pub within : (st : State) (m : M) (e : Located) → fault st m e → e.left ≤ length st.rest
  pub unfinished_not_outside : (e : Error) → IsOutside e → (m : M) → unfinished m e → ⊥

-- So many steps, one after another.
abbrev pub Steps : {M V : Type 0} → Walk M V → ℕ → State → M → M → State → Type 0
Steps w zero st m x b = (x ≡ m) × (b ≡ st)
Steps {M} w (suc n) st m x b = (y : M) × (mid : State) × w.step st m y mid × Steps w n mid y x b

-- At the top level steps were made until none came next, and the value was made of what they read. How far the steps looked is left
-- out of them.
pub record Walked {M V : Type 0} (w : Walk M V) (st : State) (v : V) (b : State) : Type 0 where
  pub top : IsAtTop st
  pub number : ℕ
  pub part : M
  pub last : State
  pub steps : Steps w number st w.blank part last
  pub done : w.done part last.rest
  pub made : w.finish part v
  pub left : AreAlike last b

-- Why no value is read: a container is open; or behind some whole steps the next one can't be made; or what all of them read makes
-- none.
pub data WalkFault {M V : Type 0} (w : Walk M V) (st : State) (e : Located) : Type 0 where
  not_top : Here NotTop st e → WalkFault w st e
  in_step : (n : ℕ) (part : M) (last mid : State) → Steps w n st w.blank part last → AreAlike last mid → w.fault mid part e
      → WalkFault w st e
  not_made : (n : ℕ) (part : M) (last : State) → Steps w n st w.blank part last → w.done part last.rest → w.unfinished part e.error
      → e.left ≡ length last.rest → WalkFault w st e
