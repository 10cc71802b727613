-- What stands at the top level (Part 3, section 3.2).
use Rattle.std.specs.Prelude.{◌≡◌, ◌≤◌, ◌↔◌, ℕ, Bool, false, IsTrue, [], length, min, Option, Some, None}
use Rattle.amqp_wire.specs.declared.error.Error.{Error}
use Rattle.amqp_wire.specs.declared.error.Error.TheVariants.{InvalidValue}
use Rattle.amqp_lookahead.specs.Sections.{IsSectionAhead}
use Rattle.amqp_decoder.specs.declared.frame.Place.TheVariants.{Top}
use Rattle.amqp_decoder.specs.State.{State, top_level, after_look}

-- Nothing is open, and what stands next may be looked at.
pub record IsTop (st : State) (v : Unit {0}) (st' : State) : Type 0 where
  pub going : st.error ≡ None
  pub place : st.top.place ≡ Top
  pub top : st.top ≡ top_level st.top.left
  pub saved : st.saved ≡ []
  pub among : st.failed.alone ≡ false
  pub kept : st' ≡ st

-- A container is open, or one term is read alone.
abbrev pub NotTop : State → Error → Type 0
NotTop st e = (st.top.place ≡ Top → st.saved ≡ [] → st.failed.alone ≡ false → ⊥) × (e ≡ InvalidValue)

-- Nothing is open, and it is known whether the input ends here; at most a byte was looked at.
pub record Ends (st : State) (b : Bool) (st' : State) : Type 0 where
  pub going : st.error ≡ None
  pub place : st.top.place ≡ Top
  pub top : st.top ≡ top_level st.top.left
  pub saved : st.saved ≡ []
  pub among : st.failed.alone ≡ false
  pub answer : IsTrue b ↔ (st.rest ≡ [])
  pub kept : st' ≡ after_look (min 1 (length st.rest)) st

-- Some of the next bytes were looked at, at most 64.
abbrev pub LooksOn : State → State → Type 0
LooksOn st st' = (n : ℕ) × (n ≤ 64) × (n ≤ length st.rest) × (st' ≡ after_look n st)

-- Nothing is open; the answer is the code of the section that stands next, if one does, and at most some bytes were
-- looked at.
pub record PeeksSection (st : State) (section : Option ℕ) (st' : State) : Type 0 where
  pub going : st.error ≡ None
  pub place : st.top.place ≡ Top
  pub top : st.top ≡ top_level st.top.left
  pub saved : st.saved ≡ []
  pub among : st.failed.alone ≡ false
  pub answer : (c : ℕ) → (section ≡ Some c) ↔ IsSectionAhead st.rest c
  pub kept : LooksOn st st'
