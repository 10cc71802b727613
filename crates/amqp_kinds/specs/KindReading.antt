-- How a value is read whose kind its first code tells.
use Rattle.std.proofs.Common.{◌≡◌, ℕ, Bool, true, Result, Ok, Err, ap, ◌∙◌, subst, refl, ◌≤◌, length, arith}
use Rattle.amqp_model.specs.Term.{Term}
use Rattle.amqp_model.specs.Standing.{Standing}
use Rattle.amqp_wire.specs.declared.error.Error.{Error}
use Rattle.amqp_decoder.specs.State.{State}
use Rattle.amqp_decoder.specs.Reading.{BeginFault, PeeksCode}
use Rattle.amqp_decoder.specs.Primitives.{standing, ReadsValue}
use Rattle.amqp_decoder.specs.Rooms.{HasRoom}
use Rattle.amqp_decoder.specs.Misspelled.{IsMisspelling, NothingStands}
use Rattle.amqp_decoder.specs.OtherSource.{Setting, under, KeepsError}
use Rattle.amqp_decoder.specs.laws.OtherSource.{begin_fault, peeked}
use Rattle.amqp_decoder.proofs.Misspelled.{begin_misspelled}
use Rattle.amqp_decoder.proofs.NothingInside.{nothing_peeked}
use Rattle.amqp_decoder.proofs.Rooms.{room_peeked}
use Rattle.amqp_decoder.proofs.NotOutside.{begin_not_outside}
use Rattle.amqp_decoder.proofs.Peeks.{value-peeked}
use Rattle.amqp_decoder.specs.Steps.{IsOutside}
use Rattle.amqp_decoder.specs.Places.{Located, Here, RefusesAt, AnswersAt}
use Rattle.amqp_codec.specs.Faults.{Faults}
use Rattle.amqp_codec.specs.laws.Tree.{IsTree}
use Rattle.amqp_codec.specs.TreeType.{MeansTree, tree_term}
use Rattle.amqp_codec.specs.laws.Refusal.{refused_later}
use Rattle.amqp_codec.specs.laws.Peek.{peeked_going, peeked_failed}
use Rattle.amqp_kinds.specs.declared.kind.Kind.{Kind}
use Rattle.amqp_kinds.specs.Kinds.{term_kind, kind_at}
use Rattle.amqp_kinds.specs.laws.Kind.{kind_there}
use Rattle.amqp_codec.specs.laws.Within.{peek_keeps}

-- Why none is read: none begins, or what begins by a code has a fault of the kind that the code tells.
pub data KindFault (faults : Kind → Faults) (st : State) (e : Located) : Type 0 where
  no_value : Here BeginFault st e → KindFault faults st e
  of_kind : {c : ℕ} {mid : State} → PeeksCode st c mid → (faults (kind_at c)).fault mid e → KindFault faults st e

module _ (faults : Kind → Faults) where
  pub kind_not_outside : {e : Located} → IsOutside e.error → (st : State) → KindFault faults st e → ⊥
  kind_not_outside out st (no_value h) = begin_not_outside out st h.0
  kind_not_outside {e} out st (of_kind {c} {mid} p h) = (faults (kind_at c)).not_outside e out mid h

  pub kind_elsewhere : (s : Setting) (st : State) (e : Located) → KeepsError s e.error → KindFault faults st e → KindFault faults (under s st) e
  kind_elsewhere s st e k (no_value h) = no_value (begin_fault s k h.0, h.1)
  kind_elsewhere s st e k (of_kind {c} {mid} p h) = of_kind (peeked s p) ((faults (kind_at c)).fault_elsewhere s mid e k h)

  pub kind_misspelled : (st : State) (e : Located) → HasRoom st → IsMisspelling e.error → KindFault faults st e → NothingStands st
  kind_misspelled st e room i (no_value h) = begin_misspelled st e.error i h.0
  kind_misspelled st e room i (of_kind {c} {mid} p h) =
      nothing_peeked st c mid p ((faults (kind_at c)).misspelled mid e (room_peeked st c mid p room) i h)

  pub kind_within : (st : State) (e : Located) → KindFault faults st e → e.left ≤ length st.rest
  kind_within st e (no_value h) = omega (arith, h.1)
  kind_within st e (of_kind {c} {mid} p h) = omega (arith, (faults (kind_at c)).within mid e h, peek_keeps st c mid p)

  abbrev pub kind_faults : Faults
  kind_faults = record {
    fault = KindFault faults;
    not_outside = λ e out. kind_not_outside out;
    fault_elsewhere = kind_elsewhere;
    misspelled = kind_misspelled;
    within = kind_within;
  }

-- Why none is read that holds others of its own type: a fault of one that holds so many levels of them.
pub record LevelFault (faults : ℕ → Faults) (st : State) (e : Located) : Type 0 where
  pub levels : ℕ
  pub named : (faults levels).fault st e

abbrev pub level_faults : (ℕ → Faults) → Faults
level_faults faults = record {
  fault = LevelFault faults;
  not_outside = λ e out st h. (faults h.levels).not_outside e out st h.named;
  fault_elsewhere = λ s st e k h. record { levels = h.levels; named = (faults h.levels).fault_elsewhere s st e k h.named };
  misspelled = λ st e room i h. (faults h.levels).misspelled st e room i h.named;
  within = λ st e h. (faults h.levels).within st e h.named;
}

-- The values of one kind are made of those of another type.
pub record IsMember {V T : Type 0} (term : V → Term) (are : (v : V) → IsTree (term v)) (k : Kind) (means : Standing → Term → T → Type 0)
    (make : T → V → Type 0) : Type 0 where
  pub to : (s : Standing) (t : Term) (x : T) (v : V) → make x v → means s t x → MeansTree term are s t v
  pub from : (s : Standing) (t : Term) (v : V) → MeansTree term are s t v → k ≡ term_kind (term v) → (x : T) × make x v × means s t x

-- One was read, and made a value.
abbrev pub ReadsMember : {V T : Type 0} → (Standing → Term → T → Type 0) → (T → V → Type 0) → State → V → State → Type 0
ReadsMember {T = T} means make st v b = (x : T) × make x v × ReadsValue means st x b

module _ {V T : Type 0} (term : V → Term) (are : (v : V) → IsTree (term v)) (faults : Kind → Faults) (k : Kind)
    (means : Standing → Term → T → Type 0) (make : T → V → Type 0) (member : IsMember term are k means make)
    (st : State) (c : ℕ) (mid : State) (p : PeeksCode st c mid) (is : k ≡ kind_at c) where
  abbrev Means : Standing → Term → V → Type 0
  Means = MeansTree term are

  -- what was read behind the look
  pub member_read : (v : V) (new : State) → ReadsMember means make mid v new → ReadsValue Means st v new
  member_read v new (x, m, h) =
      let j : ReadsValue Means mid v new =
      record {
        bytes = h.bytes;
        term = h.term;
        stands = h.stands;
        moved = h.moved;
        meant = member.to (standing mid.top.shared h.bytes) h.term x v m h.meant;
      } in
      (value-peeked Means st mid new c v p).0 j

  there : (v : V) (new : State) → ReadsValue Means st v new → ReadsMember means make mid v new
  there v new h =
      let j = (value-peeked Means st mid new c v p).1 h in
      let same = kind_there st c mid h.bytes h.term p h.stands
      ∙ ap term_kind (tree_term term are (standing st.top.shared h.bytes) h.term v h.meant) in
      let x = member.from (standing mid.top.shared j.bytes) j.term v j.meant (is ∙ same) in
      (x.0, x.1, record { bytes = j.bytes; term = j.term; stands = j.stands; moved = j.moved; meant = x.2 })

  pub member_refused : {takes : Bool} (fault : State → Located → Type 0) (e : Error) (new : State)
      → ((x : Located) → fault mid x → (faults k).fault mid x)
      → RefusesAt takes (ReadsMember means make) fault mid e new
      → RefusesAt true (ReadsValue Means) (KindFault faults) st e new
  member_refused fault e new named h =
      let going = peeked_going st c mid p in
      refused_later (ReadsMember means make) fault (ReadsValue Means) (KindFault faults) st mid e new (λ _. refl)
      (peeked_failed st c mid p) going.0 going.1
      (λ x f. of_kind p (subst (λ k. (faults k).fault mid x) is (named x f)))
      (λ none v b j. none v b (there v b j)) h

  -- what a reader of one kind answers
  pub member_answers : (takes : Bool) (fault : State → Located → Type 0) → ((x : Located) → fault mid x → (faults k).fault mid x)
      → (r : Result V Error) (new : State) → AnswersAt takes (ReadsMember means make) fault mid r new
      → AnswersAt true (ReadsValue Means) (KindFault faults) st r new
  member_answers takes fault named (Ok v) new h = member_read v new h
  member_answers takes fault named (Err e) new h = member_refused fault e new named h
