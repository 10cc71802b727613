-- A fault of an array is shown by bytes, where those of its items are (Part 1, sections 1.2.4 and 1.6.24).
use Rattle.std.proofs.Common.{◌≡◌, ℕ, zero, suc, ◌+◌, ◌-◌, ◌<◌, ◌≤◌, ◌⊎◌, inl, inr, max, Option, Some, None, List, [], ◌∷◌, ◌++◌, length}
use Rattle.std.proofs.Common.{refl, sym, ap, ◌∙◌, subst, arith}
use Rattle.std.proofs.lemmas.List.{length-append}
use Rattle.amqp_model.specs.Term.{array, Term, Descriptor}
use Rattle.amqp_model.specs.Constructors.{format}
use Rattle.amqp_model.specs.Spelling.{IsKnown}
use Rattle.amqp_model.specs.Standing.{Standing}
use Rattle.amqp_wire.specs.declared.error.Error.{Error}
use Rattle.amqp_lengths.specs.Fronts.{Behind}
use Rattle.amqp_lengths.specs.Lengths as lengths
use Rattle.amqp_lengths.specs.Stands.{an_element, an_array, an_end, Around, unbounded, whole_one, cut_one, AnyData, level_of}
use Rattle.amqp_lengths.specs.Stands.{to_element, to_array_end}
use Rattle.amqp_decoder.specs.declared.frame.Place.TheVariants.{InArray}
use Rattle.amqp_decoder.specs.State.{State, lower, bound_of, in_container}
use Rattle.amqp_decoder.specs.Rooms.{HasFlatItems, HasRoom}
use Rattle.amqp_decoder.specs.Containers.{CloseFault, not_at_end, bytes_left_over, other_place, nothing_open, items_left}
use Rattle.amqp_decoder.specs.Arrays.{TakesConstructor, Shares, no_items, shared_by}
use Rattle.amqp_decoder.specs.Arrays.{OpensArray}
use Rattle.amqp_decoder.specs.Items.{Row}
use Rattle.amqp_decoder.specs.Places.{Located, Here}
use Rattle.amqp_decoder.proofs.Rooms.{room_row, room_in_array}
use Rattle.amqp_decoder.proofs.Constructed.{code_known}
use Rattle.amqp_codec.specs.ItemsReading.{ItemsFault, unopened, at_item, unclosed}
use Rattle.amqp_containers.specs.ArrayType.{array_opening}
use Rattle.amqp_placed.specs.Facing.{bytes_open, IsAround, IsNext, Faces, Shows, IsShown, AreShown}
use Rattle.amqp_placed.proofs.Past.{Past, past_taken, past_none, past_bytes, past_length, past_around, past_bound, past_unlimited}
use Rattle.amqp_placed.proofs.Here.{none_some, here_shows}
use Rattle.amqp_placed.proofs.Onward.{next_shows}
use Rattle.amqp_placed.proofs.Inside.{InRow, in_row_under}
use Rattle.amqp_placed.proofs.Ends.{close_wrong}
use Rattle.amqp_placed.proofs.Wholes.{bare_data}
use Rattle.amqp_placed.proofs.Constructors.{flat_or_level}
use Rattle.amqp_placed.proofs.Arrays.{Begun, content_shows}
use Rattle.amqp_placed.proofs.Unopened.{array_unopened_shown}
use Rattle.amqp_placed.proofs.Items.{each_taken}

-- An array's items, and the constructor that they share.
record Sharing (ds : List Descriptor) (c n : ℕ) (ts : List Term) (b : List ℕ) (start m first mid : State) : Type 0 where
  took : TakesConstructor start ds c m
  bytes : bytes_open first ≡ bytes_open m
  rest : length first.rest ≡ length m.rest
  row : lengths.Row (AnyData c) (length ts) b
  past : Past b first mid
  saved : first.saved ≡ m.saved
  bound : bound_of first.top ≡ bound_of m.top
  around : (around : Around) → IsAround around m → IsAround around first
  nesting : first.nesting ≡ m.nesting
  quota : first.quota ≡ m.quota
  items : mid.top.items ≡ Some (n - length ts)

module _ {ds : List Descriptor} {c n : ℕ} {ts : List Term} {b : List ℕ} {start m first mid : State}
    (x : Sharing ds c n ts b start m first mid)
    (d : ℕ) (around : Around) (h : Begun d around start) where
  taken : Past x.took.own start m
  taken = past_taken start x.took.own m x.took.took

  all_bytes : bytes_open m ≡ b ++ bytes_open mid
  all_bytes = sym x.bytes ∙ past_bytes x.past

  constructor : Behind (lengths.Constructs (length ds) c) (bytes_open start) (bytes_open m)
  constructor = record { front = x.took.own; is = past_bytes taken; spelled = (ds, refl, x.took.few, x.took.spelled) }

  items_row : Behind (lengths.Row (AnyData c) (length ts)) (bytes_open m) (bytes_open mid)
  items_row = record { front = b; is = all_bytes; spelled = x.row }

  still_around : IsAround around mid
  still_around = past_around x.past around (x.around around (past_around taken around h.is_around))

  bounded : bound_of first.top ≡ Some (h.bound.0 - length x.took.own)
  bounded = x.bound ∙ past_bound taken ∙ ap (λ o. lower o (length x.took.own)) h.bound.1

  levels : length mid.saved ≤ suc d
  levels = omega (arith, h.deep, ap length x.past.saved, ap length x.saved, ap length taken.saved)

  behind_bytes : length (bytes_open start) ≡ (length x.took.own + length b) + length (bytes_open mid)
  behind_bytes = omega (
    arith,
    ap length (past_bytes taken),
    length-append x.took.own (bytes_open m),
    ap length all_bytes,
    length-append b (bytes_open mid),
  )

  behind_rest : length start.rest ≡ (length x.took.own + length b) + length mid.rest
  behind_rest = omega (arith, past_length taken, x.rest, past_length x.past)

  still_nesting : mid.nesting ≡ 128
  still_nesting = x.past.nesting ∙ x.nesting ∙ taken.nesting ∙ h.nesting

  still_uncounted : mid.quota ≡ None
  still_uncounted = x.past.uncounted (x.quota ∙ taken.uncounted h.uncounted)

  still_unlimited : bound_of mid.top ≡ None → mid.top.left ≡ None
  still_unlimited = past_unlimited x.past (λ none. absurd (none_some (sym none ∙ bounded)))

  row_end : length ts ≡ n → mid.top.items ≡ Some 0
  row_end all = x.items ∙ ap Some (omega (arith, all))

  -- bytes that are left at the end, or another end
  end_shows : (f : Located) → HasRoom mid → length ts ≡ n → Here (CloseFault InArray) mid f → Shows start f (an_array n) d around
  end_shows f room all (fault, is) =
      let Q = an_end array n in
      let none = row_end all in
      let faces : Faces mid Q d around = record {
        nesting = still_nesting;
        uncounted = still_uncounted;
        unlimited = still_unlimited;
        room = room;
        next = subst (λ l. IsNext l mid.top.shared Q) (sym none) tt;
        is_around = still_around;
        deep = inr (inl none);
      } in
      next_shows start mid f around (an_array n) Q d d (length x.took.own + length b) behind_bytes behind_rest
      (to_array_end n d (bytes_open start) (bytes_open m) (bytes_open mid) (length ds) c constructor
      (subst (λ k. Behind (lengths.Row (AnyData c) k) (bytes_open m) (bytes_open mid)) all items_row))
      (here_shows mid f Q d around is
      (close_wrong InArray mid _ f.error Q d around (past_bound x.past ∙ ap (λ o. lower o (length b)) bounded) faces fault))

same_around : (m : State) (left : Option ℕ) (o : Option (List Descriptor × ℕ)) (around : Around) → IsAround around m
    → IsAround around (record m { top = record m.top { items = left; shared = o } })
same_around m left o unbounded h = h
same_around m left o whole_one h = h
same_around m left o cut_one h = h

sharing : (ds : List Descriptor) (c n : ℕ) (ts : List Term) (b : List ℕ) (start m first mid : State) → TakesConstructor start ds c m
    → first ≡ record m { top = record m.top { items = Some n; shared = Some (ds, c) } } → InRow (AnyData c) (Some (ds, c)) ts b first mid
    → Sharing ds c n ts b start m first mid
sharing ds c n ts b start m first mid t is r = record {
  took = t;
  bytes = ap bytes_open is;
  rest = ap (λ (z : State). length z.rest) is;
  row = r.spelled;
  past = r.past;
  saved = ap (λ (z : State). z.saved) is;
  bound = ap (λ (z : State). bound_of z.top) is;
  around = λ around h. subst (IsAround around) (sym is) (same_around m (Some n) (Some (ds, c)) around h);
  nesting = ap (λ (z : State). z.nesting) is;
  quota = ap (λ (z : State). z.quota) is;
  items = r.items ∙ ap (λ o. lower o (length ts)) (ap (λ (z : State). z.top.items) is);
}

-- an array without items that has a constructor
sharing_none : (ds : List Descriptor) (c n content : ℕ) (at first : State) → n ≡ 0
    → TakesConstructor (in_container InArray 0 content at) ds c first
    → Sharing ds c n [] [] (in_container InArray 0 content at) first first first
sharing_none ds c n content at first none t = record {
  took = t;
  bytes = refl;
  rest = refl;
  row = refl;
  past = past_none first;
  saved = refl;
  bound = refl;
  around = λ around h. h;
  nesting = refl;
  quota = refl;
  items = ap (λ (z : State). z.top.items) t.took.moved ∙ ap Some (omega (arith, none));
}

item_left : (left : ℕ) (items : Option ℕ) (ds : List Descriptor) (c n i : ℕ) → items ≡ Some left → 0 < left → IsKnown (format c)
    → IsNext items (Some (ds, c)) (an_element ds c n i)
item_left zero items ds c n i is some known = absurd (omega (arith, some))
item_left (suc left) items ds c n i is some known =
    subst (λ l. IsNext l (Some (ds, c)) (an_element ds c n i)) (sym is) (n, i, refl, known)

-- What is shown behind some items of an array is shown of the array.
element_shown : (st first mid : State) (n : ℕ) (ts : List Term) (b : List ℕ) (f : Located) → OpensArray st n first → Row first ts b mid
    → length ts < n → IsShown mid f → IsShown st f
element_shown st first mid n ts b f o row less shown P d around h =
    let e = o.data_ in
    content_shows st o.code o.width o.mid n e.content e.mid f P d around h o.begun o.announced e.header e.room
    (λ inner begun. by_start inner begun e.starts)
  where
    by_start : (inner : Around) → Begun d inner (in_container InArray 0 o.data_.content o.data_.mid)
        → ((max n o.data_.content ≡ 0) × (first ≡ in_container InArray 0 o.data_.content o.data_.mid))
        ⊎ ((0 < max n o.data_.content) × Shares n (in_container InArray 0 o.data_.content o.data_.mid) first)
        → Shows (in_container InArray 0 o.data_.content o.data_.mid) f (an_array n) d inner
    by_start inner begun (inl (none, is)) = absurd (omega (arith, none, less))
    by_start inner begun (inr (some, no_items ds c none t)) = absurd (omega (arith, none, less))
    by_start inner begun (inr (some, shared_by ds c m full t wide flat is)) =
        let start = in_container InArray 0 o.data_.content o.data_.mid in
        let shared : first.top.shared ≡ Some (ds, c) = ap (λ (z : State). z.top.shared) is in
        let r = in_row_under (AnyData c) (Some (ds, c)) (λ s t h. bare_data t ds c s h) ts b first mid shared row in
        let x = sharing ds c n ts b start m first mid t is r in
        let known = code_known ds c t.own t.spelled in
        let Q = an_element ds c n (length ts) in
        let faces : Faces mid Q (d + level_of (length ds) c) inner = record {
          nesting = still_nesting x d inner begun;
          uncounted = still_uncounted x d inner begun;
          unlimited = still_unlimited x d inner begun;
          room = room_row ts first b mid row (room_in_array st n first o);
          next = subst (λ z. IsNext mid.top.items z Q) (sym r.shared) (item_left (n - length ts) mid.top.items ds c n
              (length ts) x.items (omega (arith, less)) known);
          is_around = still_around x d inner begun;
          deep = elim (flat_or_level ds c known) [
            | inl even ↦ inl (subst HasFlatItems (sym r.shared) even)
            | inr level ↦ inr (inr (omega (arith, levels x d inner begun, level)))
          ];
        } in
        next_shows start mid f inner (an_array n) Q d (d + level_of (length ds) c) (length x.took.own + length b)
        (behind_bytes x d inner begun)
        (behind_rest x d inner begun)
        (to_element n d (bytes_open start) (bytes_open m) (bytes_open mid) ds c (length ts) x.took.few
        (record { front = x.took.own; is = past_bytes (taken x d inner begun); spelled = x.took.spelled }) less (items_row x d inner begun))
        (shown Q (d + level_of (length ds) c) inner faces)

-- nothing is left over in an array without bytes
empty_closed : (content : ℕ) (m : State) (e : Error) → content ≡ 0 → CloseFault InArray (in_container InArray 0 content m) e → ⊥
empty_closed content m e none (not_at_end (other_place differs is)) = differs refl
empty_closed content m e none (not_at_end (nothing_open no_saved is)) = cc
empty_closed content m e none (not_at_end (items_left open_ some is)) = some refl
empty_closed content m e none (bytes_left_over open_ no_items_ some err) = some (ap Some none)

-- An array that isn't closed behind all its items.
array_closing_shown : (st first last : State) (n : ℕ) (ts : List Term) (b : List ℕ) (f : Located) → OpensArray st n first
    → Row first ts b last
    → length ts ≡ n → Here (CloseFault InArray) last f → IsShown st f
array_closing_shown st first last n ts b f o row all fault P d around h =
    let e = o.data_ in
    content_shows st o.code o.width o.mid n e.content e.mid f P d around h o.begun o.announced e.header e.room
    (λ inner begun. by_start inner begun e.starts)
  where
    start : State
    start = in_container InArray 0 o.data_.content o.data_.mid

    room : HasRoom last
    room = room_row ts first b last row (room_in_array st n first o)

    none_taken : (ts : List Term) → length ts ≡ 0 → Row first ts b last → last ≡ first
    none_taken [] none row = row.1
    none_taken (t ∷ ts) none row = absurd (omega (arith, none))

    by_start : (inner : Around) → Begun d inner (in_container InArray 0 o.data_.content o.data_.mid)
        → ((max n o.data_.content ≡ 0) × (first ≡ in_container InArray 0 o.data_.content o.data_.mid))
        ⊎ ((0 < max n o.data_.content) × Shares n (in_container InArray 0 o.data_.content o.data_.mid) first)
        → Shows (in_container InArray 0 o.data_.content o.data_.mid) f (an_array n) d inner
    by_start inner begun (inl (none, is)) =
        let same : last ≡ in_container InArray 0 o.data_.content o.data_.mid = none_taken ts (omega (arith, none, all)) row ∙ is in
        absurd (empty_closed o.data_.content o.data_.mid f.error (omega (arith, none))
        (subst (λ z. CloseFault InArray z f.error) same fault.0))
    by_start inner begun (inr (some, no_items ds c none t)) =
        let same : last ≡ first = none_taken ts (omega (arith, none, all)) row in
        end_shows (sharing_none ds c n o.data_.content o.data_.mid first none t) d inner begun f (subst HasRoom same room) (sym none)
        (subst (λ z. Here (CloseFault InArray) z f) same fault)
    by_start inner begun (inr (some, shared_by ds c m full t wide flat is)) =
        let shared : first.top.shared ≡ Some (ds, c) = ap (λ (z : State). z.top.shared) is in
        let r = in_row_under (AnyData c) (Some (ds, c)) (λ s t h. bare_data t ds c s h) ts b first last shared row in
        let x = sharing ds c n ts b (in_container InArray 0 o.data_.content o.data_.mid) m first last t is r in
        end_shows x d inner begun f room all fault

pub array_shown : {A : Type 0} (means : Standing → Term → A → Type 0) (fault : State → Located → Type 0) (e : Error)
    → AreShown e fault → AreShown e (ItemsFault array_opening means fault)
array_shown means fault e shown st f is (unopened h) P d around faces = array_unopened_shown st f h P d around faces
array_shown means fault e shown st f is (at_item {n} {first} o h) P d around faces =
    let t = each_taken means first h.before h.mid h.each in
    element_shown st first h.mid n t.terms t.bytes f o t.row (omega (
      arith,
      t.long,
      h.fewer,
    )) (shown h.mid f is h.named) P d around faces
array_shown means fault e shown st f is (unclosed {n} {first} {vs} {last} o h fault_) P d around faces =
    let t = each_taken means first vs last h.each in
    array_closing_shown st first last n t.terms t.bytes f o t.row (t.long ∙ h.long) fault_ P d around faces
