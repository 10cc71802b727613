-- A sum of primitive types is read: its first code is looked at, and the member of that kind is read.
use Rattle.std.proofs.Common.{ℕ, zero, suc, true, false, Result, Ok, Err, refl, sym, ap, ◌∙◌, subst}
use Rattle.amqp_model.specs.Term.{leaf}
use Rattle.amqp_wire.specs.declared.error.Error.{Error}
use Rattle.amqp_decoder.specs.State.{State}
use Rattle.amqp_decoder.specs.Reading.{BeginFault, PeeksCode, RefusesRead}
use Rattle.amqp_decoder.specs.Primitives.{standing, ReadsValue}
use Rattle.amqp_decoder.proofs.Peeks.{value-peeked}
use Rattle.amqp_decoder.specs.Places.{Here, RefusesAt, AnswersAt, StandsHere}
use Rattle.amqp_decoder.proofs.Places.{refused_here}
use Rattle.amqp_codec.specs.TreeType.{tree_term}
use Rattle.amqp_codec.specs.laws.Refusal.{no_memory, refused_first, refused_later}
use Rattle.amqp_codec.specs.laws.Peek.{peeked_going, peeked_failed, value_peeked}
use Rattle.amqp_kinds.specs.Kinds.{term_kind, kind_at}
use Rattle.amqp_kinds.specs.laws.Kind.{kind_there}
use Rattle.amqp_kinds.specs.KindReading.{no_value, of_kind}
use Rattle.amqp_kinds.specs.laws.TreeMeanings.{leaf_means, means_leaf}
use Rattle.amqp_kinds.specs.KindMembers.{KindMembers, no_more, member, KindSumOf, IsAt, AreMade, reads_at, faults_at}
use Rattle.amqp_kinds.specs.KindMembers.{takes_at}
use Rattle.amqp_kinds.specs.KindSumType.{sum_term, sums_are_trees, kind_sum_type}

module _ {V : Type 0} (s : KindSumOf V) where
  abbrev Reads : State → V → State → Type 0
  Reads = ReadsValue (kind_sum_type s).means

  -- what a member's reader reads is the value that its constructor makes
  to_sum : (ms : KindMembers V) → AreMade ms s.primitive → (i : ℕ) (st : State) (v : V) (b : State) → reads_at ms i st v b → Reads st v b
  to_sum no_more made i st v b h = absurd h
  to_sum (member m make ms) made zero st v b (x, is, h) =
      record {
        bytes = h.bytes;
        term = h.term;
        stands = h.stands;
        moved = h.moved;
        meant = leaf_means (sum_term s) (sums_are_trees s) (m.primitive x) (standing st.top.shared h.bytes) h.term v
            (ap (sum_term s) is ∙ ap leaf (made.0 x)) (m.to (standing st.top.shared h.bytes) h.term x h.meant);
      }
  to_sum (member m make ms) made (suc i) st v b h = to_sum ms made.1 i st v b h

  from_sum : (ms : KindMembers V) → AreMade ms s.primitive → (i : ℕ) (st : State) (v : V) (b : State) → IsAt ms i v → Reads st v b
      → reads_at ms i st v b
  from_sum no_more made i st v b at h = absurd at
  from_sum (member m make ms) made zero st v b (x, is) h = (
    x,
    is,
    record {
      bytes = h.bytes;
      term = h.term;
      stands = h.stands;
      moved = h.moved;
      meant = m.from (standing st.top.shared h.bytes) h.term x
          (means_leaf (sum_term s) (sums_are_trees s) (m.primitive x) (standing st.top.shared h.bytes) h.term v
          (ap (sum_term s) is ∙ ap leaf (made.0 x)) h.meant);
    },
  )
  from_sum (member m make ms) made (suc i) st v b at h = from_sum ms made.1 i st v b at h

  pub peek_refused : (st : State) (e : Error) (new : State) → RefusesRead false PeeksCode BeginFault st e new → StandsHere st new
      → RefusesAt true Reads (kind_sum_type s).faults.fault st e new
  peek_refused st e new r here =
      refused_first PeeksCode (Here BeginFault) Reads (kind_sum_type s).faults.fault st e new no_memory (λ _. no_value)
      (value_peeked (kind_sum_type s).means st) (refused_here r here)

  module _ (st : State) (c : ℕ) (mid : State) (p : PeeksCode st c mid) where
    abbrev place : ℕ
    place = s.place (kind_at c)

    behind : (v : V) (new : State) → reads_at s.members place mid v new → Reads st v new
    behind v new h = (value-peeked (kind_sum_type s).means st mid new c v p).0 (to_sum s.members s.made place mid v new h)

    there : (v : V) (new : State) → Reads st v new → reads_at s.members place mid v new
    there v new h =
        let j = (value-peeked (kind_sum_type s).means st mid new c v p).1 h in
        let same = kind_there st c mid h.bytes h.term p h.stands
        ∙ ap term_kind (tree_term (sum_term s) (sums_are_trees s) (standing st.top.shared h.bytes) h.term v h.meant) in
        from_sum s.members s.made place mid v new (subst (λ k. IsAt s.members (s.place k) v) (sym same) (s.held v)) j

    refused : (e : Error) (new : State)
        → RefusesAt (takes_at s.members place) (reads_at s.members place) (faults_at s.members place).fault mid e new
        → RefusesAt true Reads (kind_sum_type s).faults.fault st e new
    refused e new h =
        let going = peeked_going st c mid p in
        refused_later (reads_at s.members place) (faults_at s.members place).fault Reads (kind_sum_type s).faults.fault st mid e new
        (λ _. refl) (peeked_failed st c mid p) going.0 going.1 (λ _. of_kind p) (λ none v b j. none v b (there v b j)) h

    -- what the member's reader answers
    pub answers : (r : Result V Error) (new : State)
        → AnswersAt (takes_at s.members place) (reads_at s.members place) (faults_at s.members place).fault mid r new
        → AnswersAt true Reads (kind_sum_type s).faults.fault st r new
    answers (Ok v) new h = behind v new h
    answers (Err e) new h = refused e new h
