-- A value that is one of several composites is read by the descriptor that stands there (Part 1, section 1.4).
use Rattle.std.proofs.Common.{◌≡◌, ℕ, ◌≤◌, Bool, true, List, length, map, Some}
use Rattle.amqp_model.specs.Term.{Descriptor, Term, described}
use Rattle.amqp_model.specs.Standing.{Standing}
use Rattle.amqp_decoder.specs.declared.frame.Place.TheVariants.{InDescribed}
use Rattle.amqp_decoder.specs.State.{State}
use Rattle.amqp_decoder.specs.OtherSource.{Setting, under}
use Rattle.amqp_decoder.specs.Containers.{ClosesDescribed, EndFault}
use Rattle.amqp_lookahead.specs.Members.{Member, as_name, name_place}
use Rattle.amqp_decoder.specs.Described.{OpensDescribed, one_of_left}
use Rattle.amqp_decoder.specs.Items.{Next}
use Rattle.amqp_decoder.specs.Places.{Located, Here, At}
use Rattle.amqp_codec.specs.Faults.{Faults}

-- The members: their codes and names in order, and how what each describes is read.
pub record Members (V : Type 0) : Type 1 where
  pub names : List (ℕ × List ℕ)
  pub reads : ℕ → State → V → State → Type 0
  pub faults : ℕ → Faults
  -- reading the one of a place takes memory, and so does reading one of them
  pub takes_at : ℕ → Bool
  pub takes_memory : Bool
  pub takes : (i : ℕ) → takes_at i ≡ true → takes_memory ≡ true
  -- reading leaves no more than stood there
  pub shrinks : (i : ℕ) (st : State) (v : V) (b : State) → reads i st v b → length b.rest ≤ length st.rest
  -- what is read hangs neither on the source nor on how deep values may nest
  pub reads_elsewhere : (c : Setting) (i : ℕ) (st : State) (v : V) (b : State) → reads i st v b → reads i (under c st) v (under c b)

-- A member stood next.
pub record MemberRead {V : Type 0} (m : Members V) (st : State) (v : V) (b : State) : Type 0 where
  pub descriptor : Descriptor
  pub place : ℕ
  pub is : name_place m.names descriptor ≡ Some place
  pub inner : State
  pub opens : OpensDescribed st descriptor inner
  pub last : State
  pub read : m.reads place inner v last
  pub closes : ClosesDescribed InDescribed last b

-- Why none is read.
pub data MemberFault {V : Type 0} (m : Members V) (st : State) (e : Located) : Type 0 where
  no_member : {ms : List Member} → map as_name ms ≡ m.names → At (one_of_left ms) st e → MemberFault m st e
  in_member : {d : Descriptor} {i : ℕ} {inner : State} → OpensDescribed st d inner → name_place m.names d ≡ Some i
      → (m.faults i).fault inner e → MemberFault m st e
  not_ended : {d : Descriptor} {i : ℕ} {inner last : State} {v : V} → OpensDescribed st d inner → name_place m.names d ≡ Some i
      → m.reads i inner v last → Here (EndFault InDescribed) last e → MemberFault m st e

-- What was read behind the descriptor of a member is one term.
pub record TermRead {V : Type 0} (m : Members V) (means : Standing → Term → V → Type 0) (i : ℕ) (inner : State) (v : V)
    (last : State) : Type 0 where
  pub term : Term
  pub taken : Next inner term last
  pub meant : (d : Descriptor) (s : Standing) → name_place m.names d ≡ Some i → means s (described d term) v

-- A term that means the value is described as a member.
pub record TermMeant {V : Type 0} (m : Members V) (t : Term) (v : V) : Type 0 where
  pub descriptor : Descriptor
  pub described_ : Term
  pub place : ℕ
  pub is : t ≡ described descriptor described_
  pub named : name_place m.names descriptor ≡ Some place
  pub read : (inner last : State) → Next inner described_ last → m.reads place inner v last

-- The values are the members.
pub record IsSum {V : Type 0} (m : Members V) (means : Standing → Term → V → Type 0) : Type 0 where
  pub to_term : (i : ℕ) (inner : State) (v : V) (last : State) → m.reads i inner v last → TermRead m means i inner v last
  pub from_term : (s : Standing) (t : Term) (v : V) → means s t v → TermMeant m t v
