-- What is read is what the bytes spell.
use Rattle.std.proofs.Common.{◌≡◌, ℕ, List, ◌++◌, length, take, drop, sym, ap, ◌∙◌, subst}
use Rattle.std.proofs.lemmas.List.{length-take-le, take-append-drop}
use Rattle.amqp_decoder.specs.State.{State}
use Rattle.amqp_codec.specs.TermType.{TermType}
use Rattle.amqp_codec.specs.TermReading.{reading_of}
use Rattle.amqp_codec.specs.laws.Spelling.{read_spelled, spelled_read}
use Rattle.amqp_codec.specs.Reading.{Reading, BeginsWith}
use Rattle.amqp_batches.specs.Bounds.{IsBoundByLimits}
use Rattle.amqp_batches.specs.laws.Bound.{term_bound, still_fresh, still_unlimited}
use Rattle.amqp_batches.specs.laws.State.{alike_rest}
use Rattle.amqp_batches.specs.laws.Resuming.{IsUnlimited, IsReadHere, was_read, read_here}
use Rattle.amqp_batches.specs.Spellings.{Spells, Begins, IsReadExactly, IsTerm}

pub record IsReadAs {T : Type 0} (r : Reading T) (spells : Spells T) : Type 0 where
  pub bound : IsBoundByLimits r
  pub spelled : (input : List ℕ) (v : T) (n : ℕ) → BeginsWith r input v n → Begins spells input v n
  pub read : (b more : List ℕ) (v : T) → spells b v more → BeginsWith r (b ++ more) v (length b)

pub term_is_read : {T : Type 0} (u : TermType T) → IsReadAs (reading_of u) (IsTerm u)
term_is_read u = record { bound = term_bound u; spelled = read_spelled u; read = spelled_read u }

-- The bytes that were taken in the midst of an input spell what was read.
pub record Took {T : Type 0} (spells : Spells T) (st : State) (v : T) (b : State) : Type 0 where
  pub bytes : List ℕ
  pub split : st.rest ≡ bytes ++ b.rest
  pub is : spells bytes v b.rest

module _ {T : Type 0} {r : Reading T} {spells : Spells T} (l : IsReadAs r spells) where
  pub took : (st : State) (v : T) (b : State) → IsUnlimited st → r.reads st v b → Took spells st v b
  took st v b free h =
      let read = was_read r l.bound st v b free.0 h in
      let n = read.0 in
      let s = l.spelled st.rest v n read.1 in
      let again = read_here r l.bound st v (take n st.rest) (drop n st.rest) free (sym (take-append-drop n st.rest))
      (l.read (take n st.rest) (drop n st.rest) v s.1) in
      let left : drop n st.rest ≡ b.rest = sym again.left ∙ alike_rest b again.last (r.one st v v b again.last h again.read).1 in
      record {
        bytes = take n st.rest;
        split = sym (take-append-drop n st.rest) ∙ ap (λ z. take n st.rest ++ z) left;
        is = subst (spells (take n st.rest) v) left s.1;
      }

  -- And bytes that spell a value are read as it there.
  pub takes : (st : State) (v : T) (b more : List ℕ) → IsUnlimited st → st.rest ≡ b ++ more → spells b v more → IsReadHere r st v more
  takes st v b more free here s = read_here r l.bound st v b more free here (l.read b more v s)

  pub still_free : (st : State) (v : T) (b : State) → IsUnlimited st → r.reads st v b → IsUnlimited b
  still_free st v b free h = (still_fresh st b free.0 (r.stays st v b h), still_unlimited r l.bound st v b free.0 free.1 h)

  pub exactly : IsReadExactly r spells
  exactly input v n = (
    l.spelled input v n,
    λ h.
        subst (λ k. BeginsWith r input v k) (length-take-le n input h.0)
        (subst (λ z. BeginsWith r z v (length (take n input))) (take-append-drop n input) (l.read (take n input) (drop n input) v h.1)),
  )
