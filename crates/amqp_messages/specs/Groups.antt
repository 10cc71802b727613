-- The groups of a message: how each is read, one after another, and what is made of them (Part 3, section 3.2).
use Rattle.std.specs.Prelude.{◌≡◌, ◌⊎◌, ℕ, ◌<◌, ◌≤◌, List, [], length}
use Rattle.amqp_wire.specs.declared.error.Error.{Error}
use Rattle.amqp_wire.specs.declared.error.Error.TheVariants.{Misplaced}
use Rattle.amqp_lookahead.specs.Sections.{IsSectionAhead}
use Rattle.amqp_decoder.specs.State.{State}
use Rattle.amqp_decoder.specs.Steps.{IsOutside}
use Rattle.amqp_decoder.specs.Places.{Located}
use Rattle.amqp_batches.specs.Walk.{IsAtTop}
use Rattle.amqp_batches.specs.NoSections.{NoSection}
use Rattle.amqp_messages.specs.declared.order.Order.{Order}
use Rattle.amqp_messages.specs.Orders.{further, IsFull}
use Rattle.amqp_messages.specs.Kinds.{Kinds, Group, Fields, put, behind_code}
use Rattle.amqp_messages.specs.KindsReading.{AreApart, Readings, Reads, KindFault, SameFields, weight}

-- What is made of the last group of each kind, or why nothing is.
pub record Ending (ks : Kinds) (rs : Readings ks) (V : Type 0) : Type 1 where
  pub made : Fields ks → V → Type 0
  pub unmade : Fields ks → Error → Type 0
  -- the two differ at most in where they lie in memory
  pub same : V → V → Type 0
  -- the values in it
  pub count : V → ℕ
  -- the laws
  pub same_sym : (v w : V) → same v w → same w v
  pub same_trans : (v w x : V) → same v w → same w x → same v x
  pub one : (f g : Fields ks) (v w : V) → SameFields ks rs f g → made f v → made g w → same v w
  pub counted : (f : Fields ks) (v : V) → made f v → count v ≤ weight ks rs f
  pub or_not : (f g : Fields ks) (v : V) (e : Error) → SameFields ks rs f g → made f v → unmade g e → ⊥
  pub unmade_inside : (e : Error) → IsOutside e → (f : Fields ks) → unmade f e → ⊥

-- Of which kinds groups are read, how, and what is made of them.
pub record Shape (V : Type 0) : Type 1 where
  pub kinds : Kinds
  pub readings : Readings kinds
  pub apart : AreApart kinds
  pub ending : Ending kinds readings V

-- How many groups there may still be, and what was read.
pub record Progress (ks : Kinds) : Type 0 where
  pub left : ℕ
  pub part : Fields ks

module _ {V : Type 0} (o : Order) (s : Shape V) where
  -- One more group, which takes the place of an earlier one of its kind.
  pub record GroupStep (st : State) (m x : Progress s.kinds) (b : State) : Type 0 where
    pub top : IsAtTop st
    pub code : ℕ
    pub ahead : IsSectionAhead st.rest code
    pub in_place : further o m.left (behind_code s.kinds code) < m.left
    pub next : x.left ≡ further o m.left (behind_code s.kinds code)
    pub group : Group s.kinds
    pub read : Reads s.kinds s.readings code st group b
    pub is : x.part ≡ put s.kinds group m.part

  -- Why there is none: a fault of the group whose section comes next; or that section may not stand there; or none comes next.
  pub data GroupFault (st : State) (m : Progress s.kinds) (e : Located) : Type 0 where
    in_group : {c : ℕ} → IsSectionAhead st.rest c → further o m.left (behind_code s.kinds c) < m.left
        → KindFault s.kinds s.readings c st e → GroupFault st m e
    misplaced : {c : ℕ} → (IsFull o m.left → ⊥) → IsSectionAhead st.rest c → m.left ≤ further o m.left (behind_code s.kinds c)
        → e.error ≡ Misplaced → e.left ≡ length st.rest → GroupFault st m e
    not_section : (IsFull o m.left → ⊥) → (st.rest ≡ [] → ⊥) → ((c : ℕ) → IsSectionAhead st.rest c → ⊥) → NoSection st e
        → GroupFault st m e

  -- No further group is looked for, or the input ends.
  abbrev pub AreAllRead : Progress s.kinds → List ℕ → Type 0
  AreAllRead m rest = IsFull o m.left ⊎ (rest ≡ [])

  abbrev pub AreAlikeSoFar : Progress s.kinds → Progress s.kinds → Type 0
  AreAlikeSoFar m n = (m.left ≡ n.left) × SameFields s.kinds s.readings m.part n.part
