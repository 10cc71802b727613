-- What was read in the midst of an input could have been read at its start, and the other way round.
use Rattle.std.proofs.Common.{◌≡◌, ℕ, ◌-◌, ◌%◌, ◌^◌, Bool, true, false, List, ◌++◌, length, drop, Option, None, refl, sym, ap, ap₂, ◌∙◌, subst, arith}
use Rattle.std.proofs.Common.{length-append}
use Rattle.std.proofs.lemmas.List.{length-drop, drop_at}
use Rattle.amqp_wire.specs.declared.error.Error.{Error}
use Rattle.amqp_decoder.specs.State.{Course, State, Open, fresh_source, source_in}
use Rattle.amqp_decoder.specs.OtherSource.{elsewhere}
use Rattle.amqp_codec.specs.Reading.{Reading, looking, start, greatest, BeginsWith}
use Rattle.amqp_codec.specs.laws.Reading.{is_read}
use Rattle.amqp_batches.specs.Bounds.{IsFresh, without_limits, IsBoundByLimits}
use Rattle.amqp_batches.specs.laws.Bound.{still_fresh, free_of_limits, still_unlimited}
use Rattle.amqp_batches.specs.Walk.{IsAtTop}

-- One without limits.
abbrev pub IsUnlimited : State → Type 0
IsUnlimited st = IsFresh st × (st ≡ without_limits st)

pub start_unlimited : (input : List ℕ) → IsUnlimited (start input)
start_unlimited input = (record { error = refl; limit = None; top = refl; saved = refl; nesting = omega arith; among = refl }, refl)

pub fresh_top : (st : State) → IsFresh st → IsAtTop st
fresh_top st f = (f.error, ap (λ (o : Open). o.place) f.top, f.saved, f.among)

abbrev course : List ℕ → Bool → Course
course rest alone = record { size = length rest % 2 ^ 64; broken = false; alone = alone; free = true }

-- without limits it stands as one at the start of what is left
restarted : (st : State) → IsFresh st → looking 0 (elsewhere (fresh_source 0 st.rest) false (without_limits st)) ≡ start st.rest
restarted st f =
    ap (λ (x : Open). record (start st.rest) { top = record x { left = None }; saved = st.saved; error = st.error; failed = course st.rest st.failed.alone }) f.top
    ∙ ap (λ (x : List Open). record (start st.rest) { saved = x; error = st.error; failed = course st.rest st.failed.alone }) f.saved
    ∙ ap (λ (x : Option Error). record (start st.rest) { error = x; failed = course st.rest st.failed.alone }) f.error
    ∙ ap (λ x. record (start st.rest) { failed = course st.rest x }) f.among

-- and one at the start of these bytes as it does
resumed : (st : State) (text : List ℕ) → IsUnlimited st → st.rest ≡ text → elsewhere (source_in st) st.failed.broken (looking st.ahead (start text)) ≡ st
resumed st text f e =
    ap (λ t. elsewhere (source_in st) st.failed.broken (looking st.ahead (start t))) (sym e)
    ∙ ap (λ (z : State). elsewhere (source_in st) st.failed.broken (looking st.ahead z)) (sym (restarted st f.0)) ∙ sym f.1

-- The value was read from some input.
pub record IsRead {T : Type 0} (r : Reading T) (v : T) : Type 0 where
  pub input : List ℕ
  pub number : ℕ
  pub front : BeginsWith r input v number

-- A text that is read at the start is read here, and what follows it is left.
pub record IsReadHere {T : Type 0} (r : Reading T) (st : State) (v : T) (more : List ℕ) : Type 0 where
  pub last : State
  pub read : r.reads st v last
  pub fresh : IsUnlimited last
  pub left : last.rest ≡ more

module _ {T : Type 0} (r : Reading T) (bound : IsBoundByLimits r) where
  pub was_read : (st : State) (v : T) (b : State) → IsFresh st → r.reads st v b
      → (n : ℕ) × BeginsWith r st.rest v n
  was_read st v b fresh h =
      let none : State = without_limits st in
      let own = fresh_source 0 st.rest in
      let last : State = elsewhere own false (without_limits b) in
      let f = r.reads_elsewhere own false none v (without_limits b) (free_of_limits r bound st v b fresh h) in
      let q = r.looked 0 (elsewhere own false none) v last f in
      let after : State = looking q.0 last in
      let read : r.reads (start st.rest) v after = subst (λ (z : State). r.reads z v after) (restarted st fresh) q.1 in
      (length st.rest - length b.rest, is_read greatest r st.rest v after (length st.rest - length b.rest) read refl)

  pub is_read_so : (st : State) (v : T) (b : State) → IsFresh st → r.reads st v b → IsRead r v
  is_read_so st v b fresh h = let f = was_read st v b fresh h in record { input = st.rest; number = f.0; front = f.1 }

  pub read_here : (st : State) (v : T) (text more : List ℕ) → IsUnlimited st → st.rest ≡ text ++ more
      → BeginsWith r (text ++ more) v (length text) → IsReadHere r st v more
  read_here st v text more fresh here h =
      let begun = looking st.ahead (start (text ++ more)) in
      let q = r.looked st.ahead (start (text ++ more)) v h.after h.read in
      let p = r.reads_elsewhere (source_in st) st.failed.broken begun v (looking q.0 h.after) q.1 in
      let last : State = elsewhere (source_in st) st.failed.broken (looking q.0 h.after) in
      let read : r.reads st v last = subst (λ (z : State). r.reads z v last) (resumed st (text ++ more) fresh here) p in
      let t = r.taken st v last read in
      let all : t.count ≡ length text =
      omega (
        arith,
        t.within,
        ap length t.rest,
        h.left,
        length-append text more,
        ap length here,
        length-drop t.count st.rest,
      ) in
      record {
        last = last;
        read = read;
        fresh = (still_fresh st last fresh.0 (r.stays st v last read), still_unlimited r bound st v last fresh.0 fresh.1 read);
        left = t.rest ∙ ap₂ drop all here ∙ drop_at text more (length text) refl;
      }
