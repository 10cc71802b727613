-- Lemmas of what it is to read a value: of the terms of a type, and of a whole input.
use Rattle.std.proofs.Common.{sym, ◌≡◌, inl, inr, ℕ, ◌+◌, ◌≤◌, Bool, true, false, List, length, max, Option, Some, None, ◌⊎◌, refl, ap, ◌∙◌, subst, arith, ◌-◌}
use Rattle.std.proofs.Common.{length-append}
use Rattle.std.proofs.lemmas.List.{length-drop}
use Rattle.amqp_model.specs.Term.{Term}
use Rattle.amqp_model.specs.Standing.{Standing}
use Rattle.amqp_model.specs.Measures.{nest, weight}
use Rattle.amqp_model.specs.laws.Item.{clash}
use Rattle.amqp_model.proofs.Count.{nodes_bounded}
use Rattle.amqp_wire.specs.declared.error.Error.{Error}
use Rattle.amqp_wire.specs.declared.error.Error.TheVariants.{Memory, Depth, Limit}
use Rattle.amqp_wire.specs.declared.limits.Limits.{Limits}
use Rattle.amqp_wire.specs.Limits.{limit_of}
use Rattle.amqp_decoder.specs.State.{Open, State, Has, top_level, lower}
use Rattle.amqp_decoder.specs.OtherSource.{Setting, under, freed, IsByDepth}
use Rattle.amqp_decoder.specs.Misspelled.{IsMisspelling}
use Rattle.amqp_decoder.specs.Primitives.{standing, SpellsAs, ReadsValue}
use Rattle.amqp_decoder.proofs.OneReading.{value_same}
use Rattle.amqp_decoder.proofs.NotOutside.{read_is_outside}
use Rattle.amqp_decoder.specs.Steps.{IsOutside, IsReadError}
use Rattle.amqp_decoder.specs.Places.{Located}
use Rattle.amqp_codec.specs.TermType.{TermType}
use Rattle.amqp_codec.specs.Reading.{Taken, Stays, looking, AreAlike, start_within, start, greatest, IsGreatest, IsUnspelledWithin}
use Rattle.amqp_codec.specs.Reading.{Reading, BeginsWithin, IsUnreadableWithin, BeginsWith, IsUnreadable}

-- what is read is one value, and leaves one state
pub value_one : {T : Type 0} (same : T → T → Type 0) (means : Standing → Term → T → Type 0)
    → ((s : Standing) (t : Term) (v w : T) → means s t v → means s t w → same v w)
    → (st : State) (v w : T) (a b : State) → ReadsValue means st v a → ReadsValue means st w b → same v w × (a ≡ b)
value_one same means one st v w a b h k =
    let r = value_same means st a b v w h k in (one r.0 r.1 v w r.2 r.3, r.4)

value_left : {T : Type 0} (means : Standing → Term → T → Type 0) (st : State) (v : T) (b : State) (h : ReadsValue means st v b)
    → length h.bytes + length b.rest ≡ length st.rest
value_left means st v b h =
    omega (
      arith,
      ap (λ (x : State). length x.rest) h.moved,
      length-drop (length h.bytes) st.rest,
      ap length h.stands.rest,
      length-append h.bytes h.stands.after,
    )

pub value_counted : {T : Type 0} (u : TermType T) (st : State) (v : T) (b : State) → st.top.shared ≡ None → ReadsValue u.means st v b
    → u.count v + length b.rest ≤ length st.rest
value_counted u st v b n h =
    omega (
      arith,
      value_left u.means st v b h,
      (u.meant (standing st.top.shared h.bytes) h.term v h.meant).counted,
      nodes_bounded h.bytes h.term (subst (λ o. SpellsAs (standing o h.bytes) h.term) n h.stands.spelled),
    )

pub value_taken : {T : Type 0} (means : Standing → Term → T → Type 0) (st : State) (v : T) (b : State)
    → ReadsValue means st v b → Taken false st b
value_taken means st v b h = record {
  count = length h.bytes;
  within = omega (arith, value_left means st v b h);
  rest = ap (λ (x : State). x.rest) h.moved;
  ahead = λ _. ap (λ (x : State). x.ahead) h.moved;
}

top_past : (n : ℕ) (o : Open) (l : Option ℕ) → o ≡ top_level l
    → record o { items = lower o.items 1; left = lower o.left n } ≡ top_level (lower l n)
top_past n o l e = rw e refl

pub value_stays : {T : Type 0} (means : Standing → Term → T → Type 0) (st : State) (v : T) (b : State)
    → ReadsValue means st v b → Stays st b
value_stays means st v b h = record {
  error = ap (λ (x : State). x.error) h.moved;
  place = ap (λ (x : State). x.top.place) h.moved;
  shared = ap (λ (x : State). x.top.shared) h.moved;
  saved = ap (λ (x : State). x.saved) h.moved;
  nesting = ap (λ (x : State). x.nesting) h.moved;
  source = ap (λ (x : State). x.source) h.moved;
  sound = ap (λ (x : State). x.failed) h.moved;
  top = λ l e. (lower l (length h.bytes), ap (λ (x : State). x.top) h.moved ∙ top_past (length h.bytes) st.top l e);
}

pub value_looked : {T : Type 0} (means : Standing → Term → T → Type 0) (n : ℕ) (st : State) (v : T) (b : State) → ReadsValue means st v b
    → (m : ℕ) × ReadsValue means (looking n st) v (looking m b)
value_looked means n st v b h =
    let s = h.stands in (
      n - length h.bytes,
      record {
        bytes = h.bytes;
        term = h.term;
        stands = record {
          going = s.going;
          item = s.item;
          room = s.room;
          after = s.after;
          rest = s.rest;
          spelled = s.spelled;
          nested = s.nested;
          few = s.few;
        };
        moved = ap (looking (n - length h.bytes)) h.moved;
        meant = h.meant;
      },
    )

pub value_alike : {T : Type 0} (same : T → T → Type 0) (means : Standing → Term → T → Type 0)
    → ((s : Standing) (t : Term) (v w : T) → means s t v → means s t w → same v w)
    → (st : State) (v w : T) (a b : State) → ReadsValue means st v a → ReadsValue means st w b → same v w × AreAlike a b
value_alike same means one st v w a b h k =
    let r = value_one same means one st v w a b h k in (r.0, subst (AreAlike a) r.1 refl)

abbrev is_by_depth : Error → Bool
is_by_depth Depth = true
is_by_depth Limit = true
is_by_depth _ = false

by_depth_so : (e : Error) → is_by_depth e ≡ true → IsByDepth e
by_depth_so Depth h = tt
by_depth_so Limit h = tt
by_depth_so _ h = absurd (clash h refl)

so_by_depth : (e : Error) → IsByDepth e → is_by_depth e ≡ true
so_by_depth Depth h = refl
so_by_depth Limit h = refl
so_by_depth _ h = absurd h

free_has : (o : Option ℕ) (k : ℕ) → Has (freed true o) k
free_has None k = tt
free_has (Some n) k = tt

-- before a decoder that lets values nest as deep as any term does, and have as many bytes
pub term_unspelled : {T : Type 0} (u : TermType T) (limits : Limits) (input : List ℕ) (e : Located) → IsMisspelling e.error
    → u.faults.fault (start_within limits input) e → IsUnspelledWithin limits e.error input
term_unspelled u limits input e i f b more t is s bound = by (is_by_depth e.error) refl
  where
    deeper : Setting
    deeper = record { source = record { name = 0; fault = 0 }; deepen = λ n. max n (nest t); grows = λ n. omega arith; free = true; lift = true; course = λ f. f }

    by : (d : Bool) → is_by_depth e.error ≡ d → ⊥
    by true d =
        u.faults.misspelled (start_within limits input) e (inl (omega arith)) i f b t
        (record {
          going = refl;
          item = tt;
          room = (bound (by_depth_so e.error d)).0;
          after = more;
          rest = is;
          spelled = s;
          nested = (let k = (bound (by_depth_so e.error d)).1 in omega (arith, k));
          few = (bound (by_depth_so e.error d)).2;
        })
    by false d =
        u.faults.misspelled (under deeper (start_within limits input)) e (inl (omega arith)) i
        (u.faults.fault_elsewhere deeper (start_within limits input) e (λ h. absurd (clash (so_by_depth e.error h) d)) f) b t
        (record {
          going = refl;
          item = tt;
          room = tt;
          after = more;
          rest = is;
          spelled = s;
          nested = omega arith;
          few = free_has (limit_of limits.items) (weight t false);
        })

-- one value at most, and its length
pub read_one : {T : Type 0} (limits : Limits) (r : Reading T) (input : List ℕ) (v w : T) (n m : ℕ) → BeginsWithin limits r input v n
    → BeginsWithin limits r input w m → r.same v w × (n ≡ m)
read_one limits r input v w n m h k =
    let u = r.one (start_within limits input) v w h.after k.after h.read k.read in
    (u.0, omega (arith, h.left, k.left, ap (λ (x : State). length x.rest) u.1))

pub read_bounded : {T : Type 0} (limits : Limits) (r : Reading T) (input : List ℕ) (v : T) (b : State)
    → r.reads (start_within limits input) v b → r.count v + length b.rest ≤ length input
read_bounded limits r input v b h = r.counted (start_within limits input) v b refl h

pub is_read : {T : Type 0} (limits : Limits) (r : Reading T) (input : List ℕ) (v : T) (b : State) (n : ℕ)
    → r.reads (start_within limits input) v b → n ≡ length input - length b.rest → BeginsWithin limits r input v n
is_read limits r input v b n h e = record { after = b; read = h; left = omega (arith, e, read_bounded limits r input v b h) }

-- what is answered of bytes alone is never the error of a source
pub never_failing : {T : Type 0} (limits : Limits) (r : Reading T) (input : List ℕ) (e : Error)
    → ((r.takes_memory ≡ true) × (e ≡ Memory)) ⊎ IsUnreadableWithin limits r input e → IsReadError e → ⊥
never_failing limits r input e (inl x) read = subst IsReadError x.1 read
never_failing limits r input e (inr x) read = r.not_outside (record { error = e; left = x.left }) (read_is_outside e read) (start_within limits input) x.fault

-- memory is wanted only where it is taken
pub memory_wanted : {T : Type 0} (limits : Limits) (r : Reading T) (input : List ℕ) (e : Error)
    → ((r.takes_memory ≡ true) × (e ≡ Memory)) ⊎ IsUnreadableWithin limits r input e → e ≡ Memory → r.takes_memory ≡ true
memory_wanted limits r input e (inl x) is = x.0
memory_wanted limits r input e (inr x) is =
    absurd (r.not_outside (record { error = e; left = x.left }) (subst IsOutside (sym is) tt) (start_within limits input) x.fault)

-- the greatest limits, whatever they are called, are those of a start without any
same_start : (limits : Limits) (input : List ℕ) → IsGreatest limits → start_within limits input ≡ start input
same_start limits input (nesting, bytes, items) = rw (nesting, bytes, items) refl

pub begins_greatest : {T : Type 0} (limits : Limits) (r : Reading T) (input : List ℕ) (v : T) (n : ℕ) → IsGreatest limits
    → BeginsWithin limits r input v n → BeginsWith r input v n
begins_greatest limits r input v n g h =
    record { after = h.after; read = subst (λ st. r.reads st v h.after) (same_start limits input g) h.read; left = h.left }

pub greatest_begins : {T : Type 0} (limits : Limits) (r : Reading T) (input : List ℕ) (v : T) (n : ℕ) → IsGreatest limits
    → BeginsWith r input v n → BeginsWithin limits r input v n
greatest_begins limits r input v n g h =
    record { after = h.after; read = subst (λ st. r.reads st v h.after) (sym (same_start limits input g)) h.read; left = h.left }

pub unreadable_greatest : {T : Type 0} (limits : Limits) (r : Reading T) (input : List ℕ) (e : Error) → IsGreatest limits
    → IsUnreadableWithin limits r input e → IsUnreadable r input e
unreadable_greatest limits r input e g h =
    let fault = subst (λ st. r.fault st (record { error = e; left = h.left })) (same_start limits input g) h.fault in
    record {
      left = h.left;
      fault = fault;
      none = λ v n k. h.none v n (greatest_begins limits r input v n g k);
      unspelled = λ one i b more t is s bound. r.misspelled one greatest input (record { error = e; left = h.left }) i fault b more t is s (λ deep. (tt, bound deep, tt));
    }
