-- What stands before a decoder is the same of another source, and where values may nest deeper, have more bytes or more may begin; and
-- so is a fault, unless it is that they nest too deep or pass a limit.
use Rattle.std.proofs.Common.{◌≡◌, ◌≤◌, ◌<◌, inl, inr, ℕ, ◌⊎◌, ◌-◌, Bool, true, false, cond, nat_lt, List, [], ◌∷◌, ◌++◌, map, length, Option, Some, None, unwrap_or, refl, sym, ap, ap₂, ◌∙◌, subst, arith}
use Rattle.std.proofs.Common.{◌+◌}
use Rattle.std.proofs.lemmas.List.{length-map}
use Rattle.amqp_model.specs.Term.{Container, Descriptor, Term}
use Rattle.amqp_model.specs.Constructors.{Format, fixed, variable, compound, unknown, format}
use Rattle.amqp_model.specs.Standing.{Standing}
use Rattle.amqp_wire.specs.declared.error.Error.{Error}
use Rattle.amqp_wire.specs.declared.error.Error.TheVariants.{Size, Depth, Limit}
use Rattle.amqp_lookahead.specs.Members.{Member}
use Rattle.amqp_decoder.specs.declared.frame.Place.{Place}
use Rattle.amqp_decoder.specs.declared.frame.Place.TheVariants.{InArray}
use Rattle.amqp_decoder.specs.State.{Source, Open, State, Has, lower, emptied, bound_of, bytes_left, announced, after_data, after_value, counted_in, weight_at}
use Rattle.amqp_decoder.specs.State.{depth_error, holding, in_container}
use Rattle.amqp_decoder.specs.Steps.{Takes, Lacks, cut_open, past_limit, cut_inside, too_long, asked_in, asked, IsWithinLimit}
use Rattle.amqp_decoder.specs.Steps.{SizeError, cut, wrong, past, NoRoom}
use Rattle.amqp_decoder.specs.Reading.{ReadsCode, BeginFault, missing, no_code, one_too_many, after_peek, PeeksCode}
use Rattle.amqp_decoder.specs.Primitives.{Stands, ReadsValue, LacksData, PrimitiveFault, not_begun, wrong_code, no_data, bad_data}
use Rattle.amqp_decoder.specs.Containers as containers
use Rattle.amqp_decoder.specs.Containers.{place_of, IsOpen, EndFault, other_place, nothing_open, items_left, Closes, CloseFault, not_at_end}
use Rattle.amqp_decoder.specs.Containers.{bytes_left_over, ReadsHeader, HeaderFault, no_size, impossible, no_count}
use Rattle.amqp_decoder.specs.Containers.{no_content, Enters, EnterFault, no_header, odd_count, no_room, too_deep, Opens, OpenFault}
use Rattle.amqp_decoder.specs.Described as described
use Rattle.amqp_decoder.specs.Described.{in_described, TakesDescriptor, OpensDescribed, TakesPlace, DescribedFault, other_code, DescriptorFault, no_kind}
use Rattle.amqp_decoder.specs.Described.{non_ascii, not_open, nameless, OneOfFault, not_described, no_descriptor, no_member, open_left, one_of_left}
use Rattle.amqp_decoder.specs.Arrays as arrays
use Rattle.amqp_decoder.specs.Arrays.{TakesMarks, TakesConstructor, no_mark, too_many, no_known_code, Shares}
use Rattle.amqp_decoder.specs.Arrays.{no_items, shared_by, no_constructor, zero_width, too_nested, Starts, EntersArray}
use Rattle.amqp_decoder.specs.Arrays.{OpenItemsFault, no_items_opened, no_start, OpensArray, ArrayFault}
use Rattle.amqp_decoder.specs.Arrays.{constructor_left, shares_left, enter_left, array_left}
use Rattle.amqp_decoder.specs.Terms as terms
use Rattle.amqp_decoder.specs.Terms.{LacksAnnounced, wrong_size, wrong_term, no_term, TakesTerm, TermFault, in_array}
use Rattle.amqp_decoder.specs.Terms.{misspelled, term_left, spelling_left, term_fault_left}
use Rattle.amqp_decoder.specs.Places.{Located, At}
use Rattle.amqp_lengths.specs.Faults.{inside}
use Rattle.amqp_lengths.proofs.RefusedBytes.{fault_refuses}
use Rattle.amqp_lengths.proofs.DeeperFaults.{fault_deeper}
use Rattle.amqp_decoder.specs.OtherSource.{Setting, freed, lifted, under, another, IsByDepth, KeepsError}

-- that as many may begin as there are changes nothing else
pub freed_kept : (o : Option ℕ) → freed false o ≡ o
freed_kept None = refl
freed_kept (Some n) = refl

freed_lower : (free : Bool) (o : Option ℕ) (k : ℕ) → freed free (lower o k) ≡ lower (freed free o) k
freed_lower free None k = refl
freed_lower true (Some n) k = refl
freed_lower false (Some n) k = refl

freed_has : (free : Bool) (o : Option ℕ) (k : ℕ) → Has o k → Has (freed free o) k
freed_has free None k h = h
freed_has true (Some n) k h = tt
freed_has false (Some n) k h = h

-- that as many bytes may be left as there are changes nothing that a size leaves
pub unlifted : (fs : List Open) → map (lifted false) fs ≡ fs
unlifted [] = refl
unlifted (f ∷ fs) = ap (λ l. f ∷ l) (unlifted fs)

has_left : (lift sized : Bool) (o : Option ℕ) (n : ℕ) → Has o n → Has (cond lift (cond sized o None) o) n
has_left false sized o n h = h
has_left true true o n h = h
has_left true false o n h = tt

still_bound : (lift sized : Bool) (o : Option ℕ) → cond sized (cond lift (cond sized o None) o) None ≡ cond sized o None
still_bound false sized o = refl
still_bound true true o = refl
still_bound true false o = refl

lower_left : (lift sized : Bool) (o : Option ℕ) (n : ℕ)
    → cond lift (cond sized (lower o n) None) (lower o n) ≡ lower (cond lift (cond sized o None) o) n
lower_left false sized o n = refl
lower_left true true o n = refl
lower_left true false o n = refl

empty_left : (lift sized : Bool) (o : Option ℕ)
    → cond lift (cond sized (emptied o) None) (emptied o) ≡ emptied (cond lift (cond sized o None) o)
empty_left false sized o = refl
empty_left true true o = refl
empty_left true false o = refl

either_same : (b : Bool) (o : Option ℕ) → cond b o o ≡ o
either_same true o = refl
either_same false o = refl

bytes_same : (lift : Bool) (fs : List Open) → bytes_left (map (lifted lift) fs) ≡ bytes_left fs
bytes_same lift [] = refl
bytes_same lift (f ∷ fs) = ap₂ (λ o n. unwrap_or o 0 + n) (still_bound lift f.sized f.left) (bytes_same lift fs)

by_depth : (b : Bool) → IsByDepth (cond b Limit Depth)
by_depth true = tt
by_depth false = tt

inside_depth : (b : Bool) → inside (cond b Limit Depth) ≡ cond b Limit Depth
inside_depth true = refl
inside_depth false = refl

pub keeps_another : (source : Source) (failed : Bool) (e : Error) → KeepsError (another source failed) e
keeps_another source failed e = λ deep. (λ n. refl, refl, refl)

module _ (c : Setting) where
  abbrev at : State → State
  at = under c

  -- what a size leaves, and how many containers are open
  size_same : (st : State) → bound_of (at st).top ≡ bound_of st.top
  size_same st = still_bound c.lift st.top.sized st.top.left

  announced_same : (st : State) → announced (at st) ≡ announced st
  announced_same st = bytes_same c.lift (st.top ∷ st.saved)

  asked_same : (n : ℕ) (st : State) → asked n (at st) ≡ asked n st
  asked_same n st = ap₂ (λ o all. asked_in o n all) (size_same st) (announced_same st)

  pub saved_same : (st : State) → length (at st).saved ≡ length st.saved
  saved_same st = length-map st.saved (lifted c.lift)

  room_left : (n : ℕ) (st : State) → Has st.top.left n → Has (at st).top.left n
  room_left n st h = has_left c.lift st.top.sized st.top.left n h

  moved_past : (n : ℕ) (st : State) → at (after_data n st) ≡ after_data n (at st)
  moved_past n st =
      ap (λ o. record (after_data n (at st)) { top = record (at st).top { left = o } }) (lower_left c.lift st.top.sized st.top.left n)

  took : {st st' : State} {s : List ℕ} → Takes st s st' → Takes (at st) s (at st')
  took {st} {s = s} h =
      record { room = room_left (length s) st h.room; rest = h.rest; moved = ap at h.moved ∙ moved_past (length s) st }

  -- a value is taken
  pub taken_past : (n k : ℕ) (st : State) → at (after_value n k st) ≡ after_value n k (at st)
  taken_past n k st =
      ap₂ (λ q o. record (after_value n k (at st)) { quota = q; top = record (at st).top { items = lower st.top.items 1; left = o } })
      (freed_lower c.free st.quota k) (lower_left c.lift st.top.sized st.top.left n)

  -- a container is opened
  opened_in : (place : Place) (n content : ℕ) (st : State) → at (in_container place n content st) ≡ in_container place n content (at st)
  opened_in place n content st =
      ap₂ (λ o l. record (in_container place n content (at st)) { top = record (holding place n content) { left = o }; saved = (record (at st).top { left = l }) ∷ (at st).saved })
      (either_same c.lift (Some content)) (lower_left c.lift st.top.sized st.top.left content)

  described_in : (st : State) → at (in_described st) ≡ in_described (at st)
  described_in st =
      ap (λ l. record (in_described (at st)) { saved = (record (at st).top { left = l }) ∷ (at st).saved })
      (empty_left c.lift st.top.sized st.top.left)

  pub begun : {st st' : State} {k : ℕ} → ReadsCode st k st' → ReadsCode (at st) k (at st')
  begun {st} {k} h = record {
    going = h.going;
    item = h.item;
    own = h.own;
    first = h.first;
    room = room_left (length h.own) st h.room;
    rest = h.rest;
    few = freed_has c.free st.quota (counted_in st.top.shared k) h.few;
    moved = ap at h.moved ∙ taken_past (length h.own) (counted_in st.top.shared k) st;
  }

  looked_at : (o : Option (List Descriptor × ℕ)) (st : State) → at (after_peek o st) ≡ after_peek o (at st)
  looked_at None st = refl
  looked_at (Some s) st = refl

  pub peeked : {st st' : State} {k : ℕ} → PeeksCode st k st' → PeeksCode (at st) k (at st')
  peeked {st} h = record { after = at h.after; begun = begun h.begun; kept = ap at h.kept ∙ looked_at st.top.shared st }

  pub stands : {st : State} {s : List ℕ} {t : Term} → Stands st s t → Stands (at st) s t
  stands {st} {s} {t} h = record {
    going = h.going;
    item = h.item;
    room = room_left (length s) st h.room;
    after = h.after;
    rest = h.rest;
    spelled = h.spelled;
    nested = let n = h.nested in let g = c.grows st.nesting in let open_ = saved_same st in omega (arith, n, g, open_);
    few = freed_has c.free st.quota (weight_at st t) h.few;
  }

  pub value : {A : Type 0} (means : Standing → Term → A → Type 0) {st st' : State} {v : A} → ReadsValue means st v st'
      → ReadsValue means (at st) v (at st')
  value means {st} h = record {
    bytes = h.bytes;
    term = h.term;
    stands = stands h.stands;
    moved = ap at h.moved ∙ taken_past (length h.bytes) (weight_at st h.term) st;
    meant = h.meant;
  }

  -- an error by a limit keeps how many bytes are left
  limited_still : {e : Error} → KeepsError c e → e ≡ Limit → (n : ℕ) (st : State) → (Has st.top.left n → ⊥) → Has (at st).top.left n → ⊥
  limited_still keeps is n st full h =
      let kept : c.lift ≡ false = (keeps (subst IsByDepth (sym is) tt)).2 in
      full (subst (λ b. Has (cond b (bound_of st.top) st.top.left) n) kept h)

  lacks : {n : ℕ} {st : State} {e : Error} → KeepsError c e → Lacks n st e → Lacks n (at st) e
  lacks {n} {st} keeps (cut_open l h r e) = cut_open (size_same st ∙ l) (room_left n st h) r e
  lacks {n} {st} keeps (past_limit l h e) = past_limit (size_same st ∙ l) (limited_still keeps e n st h) e
  lacks {n} {st} keeps (cut_inside l r a e) =
      cut_inside (size_same st ∙ l) r (subst (λ k. length st.rest < k) (sym (announced_same st)) a) e
  lacks {n} {st} keeps (too_long l r a e) =
      too_long (size_same st ∙ l) r (subst (λ k. k ≤ length st.rest) (sym (announced_same st)) a) e

  within : (n : ℕ) (st : State) → IsWithinLimit n st → IsWithinLimit n (at st)
  within n st h = λ none. room_left n st (h (sym (size_same st) ∙ none))

  size_error : {n : ℕ} {st : State} {e : Error} → KeepsError c e → SizeError n st e → SizeError n (at st) e
  size_error {n} {st} keeps (cut h l e) = cut (within n st h) (subst (λ k. length st.rest < k) (sym (asked_same n st)) l) e
  size_error {n} {st} keeps (wrong h l e) = wrong (within n st h) (subst (λ k. k ≤ length st.rest) (sym (asked_same n st)) l) e
  size_error {n} {st} keeps (past b h e) = past (size_same st ∙ b) (limited_still keeps e n st h) e

  -- where no size bounds them, only a limit leaves too few
  too_few : {e : Error} → KeepsError c e → (n : ℕ) (st : State) → NoRoom n st e → Has (at st).top.left n → ⊥
  too_few {e} keeps n st h = by c.lift st.top.sized refl refl
    where
      refuted : c.lift ≡ true → bound_of st.top ≡ None → SizeError n st e → ⊥
      refuted i none (cut w l is) = h.less (w none)
      refuted i none (wrong w l is) = h.less (w none)
      refuted i none (past b f is) =
          let kept : c.lift ≡ false = (keeps (subst IsByDepth (sym is) tt)).2 in let no : true ≡ false = sym i ∙ kept in absurd (cc)

      by : (lift sized : Bool) → c.lift ≡ lift → st.top.sized ≡ sized → Has (at st).top.left n → ⊥
      by false sized i s k = h.less (subst (λ b. Has (cond b (bound_of st.top) st.top.left) n) i k)
      by true true i s k =
          h.less (subst (λ b. Has (cond b st.top.left None) n) s (subst (λ b. Has (cond b (bound_of st.top) st.top.left) n) i k))
      by true false i s k = refuted i (ap (λ b. cond b st.top.left None) s) h.why

  room_fault : {n : ℕ} {st : State} {e : Error} → KeepsError c e → NoRoom n st e → NoRoom n (at st) e
  room_fault {n} {st} keeps h = record { less = too_few keeps n st h; why = size_error keeps h.why }

  -- an error by a limit keeps how many may begin
  counted_still : {e : Error} → KeepsError c e → e ≡ Limit → (o : Option ℕ) (k : ℕ) → (Has o k → ⊥) → Has (freed c.free o) k → ⊥
  counted_still keeps is o k full h =
      let kept : c.free ≡ false = (keeps (subst IsByDepth (sym is) tt)).1 in
      full (subst (λ q. Has q k) (ap (λ b. freed b o) kept ∙ freed_kept o) h)

  pub begin_fault : {st : State} {e : Error} → KeepsError c e → BeginFault st e → BeginFault (at st) e
  begin_fault keeps (missing i e) = missing i e
  begin_fault keeps (no_code i s l) = no_code i s (lacks keeps l)
  begin_fault {st} keeps (one_too_many {c = k} g full is) = one_too_many (begun g) (counted_still keeps is st.quota (counted_in st.top.shared k) full) is

  data_fault : (F : Format) (st : State) (e : Error) → KeepsError c e → LacksData F st e → LacksData F (at st) e
  data_fault (fixed w v) st e keeps h = lacks keeps h
  data_fault (variable w v) st e keeps (inl h) = inl (lacks keeps h)
  data_fault (variable w v) st e keeps (inr (n, mid, l, t, h)) = inr (n, at mid, l, took t, lacks keeps h)
  data_fault (compound k w) st e keeps h = h
  data_fault unknown st e keeps h = h

  pub primitive_fault : {k : ℕ} {st : State} {e : Error} → KeepsError c e → PrimitiveFault k st e → PrimitiveFault k (at st) e
  primitive_fault keeps (not_begun h) = not_begun (begin_fault keeps h)
  primitive_fault keeps (wrong_code b k e) = wrong_code (begun b) k e
  primitive_fault keeps (no_data {c = n} {m} b k h) = no_data (begun b) k (data_fault (format n) m _ keeps h)
  primitive_fault keeps (bad_data b k t w n e) = bad_data (begun b) k (took t) w n e

  -- an error by depth keeps the bound
  bound : {e : Error} → KeepsError c e → (n : ℕ) → e ≡ depth_error n → c.deepen n ≡ n
  bound keeps n is = (keeps (subst IsByDepth (sym is) (by_depth (nat_lt n 128)))).0 n

  -- no deeper than the bound
  deep : {e : Error} → KeepsError c e → (st : State) → st.nesting ≤ length st.saved → e ≡ depth_error st.nesting
      → c.deepen st.nesting ≤ length (at st).saved
  deep keeps st l is = let same = bound keeps st.nesting is in let open_ = saved_same st in omega (arith, l, same, open_)

  deeper : {e : Error} → KeepsError c e → (st : State) → st.nesting < length st.saved → e ≡ depth_error st.nesting
      → c.deepen st.nesting < length (at st).saved
  deeper keeps st l is = let same = bound keeps st.nesting is in let open_ = saved_same st in omega (arith, l, same, open_)

  by_bound : {e : Error} → KeepsError c e → (n : ℕ) → e ≡ depth_error n → e ≡ depth_error (c.deepen n)
  by_bound keeps n is = is ∙ ap depth_error (sym (bound keeps n is))

  -- containers
  header : {listed : Bool} {w n content : ℕ} {st st' : State} → ReadsHeader listed w st n content st'
      → ReadsHeader listed w (at st) n content (at st')
  header h = record { size = h.size; fits = h.fits; few = h.few; took = took h.took; counts = h.counts }

  header_fault : {listed : Bool} {w : ℕ} {st : State} {e : Error} → KeepsError c e → HeaderFault listed w st e
      → HeaderFault listed w (at st) e
  header_fault keeps (no_size h) = no_size (lacks keeps h)
  header_fault keeps (impossible l t n h) = impossible l (took t) n (size_error keeps h)
  header_fault keeps (no_count l t p h) = no_count l (took t) p (lacks keeps h)
  header_fault keeps (no_content l m t h) = no_content l m (took t) (size_error keeps h)

  entered : {kind : Container} {w n : ℕ} {st st' : State} → Enters kind w st n st' → Enters kind w (at st) n (at st')
  entered {kind} {n = n} {st} h = record {
    content = h.content;
    mid = at h.mid;
    header = header h.header;
    count = h.count;
    room = room_left h.content h.mid h.room;
    few = let n = h.few in let g = c.grows st.nesting in let open_ = saved_same st in omega (arith, n, g, open_);
    entered = ap at h.entered ∙ opened_in (place_of kind) n h.content h.mid;
  }

  enter_fault : {kind : Container} {w : ℕ} {st : State} {e : Error} → KeepsError c e → EnterFault kind w st e → EnterFault kind w (at st) e
  enter_fault keeps (no_header h) = no_header (header_fault keeps h)
  enter_fault keeps (odd_count h n e) = odd_count (header h) n e
  enter_fault keeps (no_room h n r) = no_room (header h) n (room_fault keeps r)
  enter_fault {st} keeps (too_deep {content = content} {m} h n r l e) =
      too_deep (header h) n (room_left content m r) (deep keeps st l e) (by_bound keeps st.nesting e)

  pub opens : {kind : Container} {n : ℕ} {st st' : State} → Opens kind st n st' → Opens kind (at st) n (at st')
  opens h = record {
    code = h.code;
    width = h.width;
    mid = at h.mid;
    begun = begun h.begun;
    announced = h.announced;
    data_ = entered h.data_;
  }

  pub open_fault : {kind : Container} {st : State} {e : Error} → KeepsError c e → OpenFault kind st e → OpenFault kind (at st) e
  open_fault keeps (containers.not_begun h) = containers.not_begun (begin_fault keeps h)
  open_fault keeps (containers.wrong_code b n e) = containers.wrong_code (begun b) n e
  open_fault keeps (containers.no_data b f h) = containers.no_data (begun b) f (enter_fault keeps h)

  is_open : {place : Place} {st : State} → IsOpen place st → IsOpen place (at st)
  is_open h = record {
    here = h.here;
    outer = lifted c.lift h.outer;
    others = map (lifted c.lift) h.others;
    saved = ap (map (lifted c.lift)) h.saved;
  }

  pub end_fault : {place : Place} {st : State} {e : Error} → KeepsError c e → EndFault place st e → EndFault place (at st) e
  end_fault keeps (other_place n e) = other_place n e
  end_fault keeps (nothing_open s e) = nothing_open (ap (map (lifted c.lift)) s) e
  end_fault keeps (items_left o n e) = items_left (is_open o) n e

  pub closes : {place : Place} {st st' : State} → Closes place st st' → Closes place (at st) (at st')
  closes {st = st} h = record {
    going = h.going;
    here = h.here;
    items = h.items;
    left = size_same st ∙ h.left;
    outer = lifted c.lift h.outer;
    others = map (lifted c.lift) h.others;
    saved = ap (map (lifted c.lift)) h.saved;
    moved = ap at h.moved;
  }

  pub close_fault : {place : Place} {st : State} {e : Error} → KeepsError c e → CloseFault place st e → CloseFault place (at st) e
  close_fault keeps (not_at_end h) = not_at_end (end_fault keeps h)
  close_fault {st = st} keeps (bytes_left_over o i n h) =
      bytes_left_over (is_open o) i (λ none. n (sym (size_same st) ∙ none)) (size_error keeps h)

  -- described values
  took_descriptor : {st st' : State} {d : Descriptor} → TakesDescriptor st d st' → TakesDescriptor (at st) d (at st')
  took_descriptor h = record { own = h.own; descriptor = h.descriptor; took = took h.took }

  pub opens_described : {st st' : State} {d : Descriptor} → OpensDescribed st d st' → OpensDescribed (at st) d (at st')
  opens_described {st} h = record {
    coded = at h.coded;
    named = at h.named;
    begun = begun h.begun;
    nested = let n = h.nested in let g = c.grows st.nesting in let open_ = saved_same st in omega (arith, n, g, open_);
    descriptor = took_descriptor h.descriptor;
    opened = ap at h.opened ∙ described_in h.named;
  }

  described_fault : {st : State} {e : Error} → KeepsError c e → DescribedFault st e → DescribedFault (at st) e
  described_fault keeps (described.not_begun h) = described.not_begun (begin_fault keeps h)
  described_fault keeps (other_code b n e) = other_code (begun b) n e
  described_fault {st} keeps (described.too_deep b l e) = described.too_deep (begun b) (deep keeps st l e) (by_bound keeps st.nesting e)

  descriptor_fault : {st : State} {e : Error} → KeepsError c e → DescriptorFault st e → DescriptorFault (at st) e
  descriptor_fault keeps (described.no_code h) = described.no_code (lacks keeps h)
  descriptor_fault keeps (no_kind t n e) = no_kind (took t) n e
  descriptor_fault keeps (described.no_data {c = n} {m} t k h) = described.no_data (took t) k (data_fault (format n) m _ keeps h)
  descriptor_fault keeps (non_ascii t k u w n e) = non_ascii (took t) k (took u) w n e

  took_place : {members : List Member} {o : Option ℕ} {st st' : State} → TakesPlace members st o st' → TakesPlace members (at st) o (at st')
  took_place h = record { descriptor = h.descriptor; took = took_descriptor h.took; is = h.is }

  pub one_of_placed : {members : List Member} {st : State} {f : Located} → KeepsError c f.error → At (one_of_left members) st f
      → At (one_of_left members) (at st) f
  one_of_placed keeps (not_described h, is) = (not_described (described_fault keeps h), is)
  one_of_placed keeps (no_descriptor b s h, is) = (no_descriptor (begun b) s (descriptor_fault keeps h), is)
  one_of_placed keeps (no_member b t e, is) = (no_member (begun b) (took_place t) e, is)

  pub one_of_fault : {members : List Member} {st : State} {e : Error} → KeepsError c e → OneOfFault members st e → OneOfFault members (at st) e
  one_of_fault {members} {st} {e} keeps h = (one_of_placed {f = record { error = e; left = one_of_left members st e h }} keeps (h, refl)).0

  pub open_described_placed : {st : State} {f : Located} → KeepsError c f.error → At open_left st f → At open_left (at st) f
  open_described_placed keeps (not_open h, is) = (not_open (described_fault keeps h), is)
  open_described_placed keeps (nameless b s h, is) = (nameless (begun b) s (descriptor_fault keeps h), is)

  pub open_described_fault : {st : State} {e : Error} → KeepsError c e → described.OpenFault st e → described.OpenFault (at st) e
  open_described_fault {st} {e} keeps h = (open_described_placed {f = record { error = e; left = open_left st e h }} keeps (h, refl)).0

  -- arrays
  took_constructor : {st st' : State} {ds : List Descriptor} {k : ℕ} → TakesConstructor st ds k st' → TakesConstructor (at st) ds k (at st')
  took_constructor h = record { own = h.own; few = h.few; spelled = h.spelled; took = took h.took }

  took_marks : {st st' : State} {ds : List Descriptor} {k : ℕ} → TakesMarks st ds k st' → TakesMarks (at st) ds k (at st')
  took_marks h = record { own = h.own; marks = h.marks; took = took h.took }

  fits : {F : Type 0} (st : State) → F ⊎ (length st.saved ≤ st.nesting) → F ⊎ (length (at st).saved ≤ c.deepen st.nesting)
  fits st (inl flat) = inl flat
  fits st (inr few) = let g = c.grows st.nesting in let open_ = saved_same st in inr (omega (arith, few, g, open_))

  shares : {n : ℕ} {st st' : State} → Shares n st st' → Shares n (at st) (at st')
  shares (no_items ds k e t) = no_items ds k e (took_constructor t)
  shares {st} (shared_by ds k m some t wide room is) =
      shared_by ds k (at m) some (took_constructor t) wide (fits st room) (ap at is)

  starts : (n content : ℕ) (st st' : State) → Starts n content st st' → Starts n content (at st) (at st')
  starts n content st st' (inl (e, is)) = inl (e, ap at is)
  starts n content st st' (inr (l, s)) = inr (l, shares s)

  enters_array : {w n : ℕ} {st st' : State} → EntersArray w st n st' → EntersArray w (at st) n (at st')
  enters_array {n} {st} {st'} h = record {
    content = h.content;
    mid = at h.mid;
    header = header h.header;
    room = room_left h.content h.mid h.room;
    few = let f = h.few in let g = c.grows st.nesting in let open_ = saved_same st in omega (arith, f, g, open_);
    starts = subst (λ x. Starts n h.content x (at st')) (opened_in InArray 0 h.content h.mid)
        (starts n h.content (in_container InArray 0 h.content h.mid) st' h.starts);
  }

  pub opens_array : {n : ℕ} {st st' : State} → OpensArray st n st' → OpensArray (at st) n (at st')
  opens_array h =
      record {
        code = h.code;
        width = h.width;
        mid = at h.mid;
        begun = begun h.begun;
        announced = h.announced;
        data_ = enters_array h.data_;
      }

  constructor_placed : {st : State} {f : Located} → KeepsError c f.error → At constructor_left st f → At constructor_left (at st) f
  constructor_placed keeps (arrays.no_code ds own m few marks t l, is) = (arrays.no_code ds own (at m) few marks (took t) (lacks keeps l), is)
  constructor_placed keeps (no_mark ds m few t h, is) = (no_mark ds (at m) few (took_marks t) (descriptor_fault keeps h), is)
  constructor_placed keeps (too_many ds m many t e, is) = (too_many ds (at m) many (took_marks t) e, is)
  constructor_placed keeps (no_known_code ds k m few t some never e, is) = (no_known_code ds k (at m) few (took_marks t) some never e, is)

  shares_placed : {n : ℕ} {st : State} {f : Located} → KeepsError c f.error → At (shares_left n) st f → At (shares_left n) (at st) f
  shares_placed keeps (no_constructor h, is) = let x = constructor_placed keeps (h, is) in (no_constructor x.0, x.1)
  shares_placed keeps (zero_width ds k m some t wide e, is) = (zero_width ds k (at m) some (took_constructor t) wide e, is)
  shares_placed {st} keeps (too_nested ds k m some t uneven l e, is) =
      (too_nested ds k (at m) some (took_constructor t) uneven (deeper keeps st l e) (by_bound keeps st.nesting e), is)

  open_items_fault : {w : ℕ} {st : State} {e : Error} → KeepsError c e → OpenItemsFault w st e → OpenItemsFault w (at st) e
  open_items_fault keeps (arrays.no_header h) = arrays.no_header (header_fault keeps h)
  open_items_fault keeps (arrays.no_room n content m h r) = arrays.no_room n content (at m) (header h) (room_fault keeps r)
  open_items_fault {st} keeps (arrays.too_deep n content m h l e) =
      arrays.too_deep n content (at m) (header h) (deeper keeps st l e) (by_bound keeps st.nesting e)

  enter_placed : {own w : ℕ} {st : State} {f : Located} → KeepsError c f.error → At (enter_left own w) st f → At (enter_left own w) (at st) f
  enter_placed keeps (no_items_opened h, is) = (no_items_opened (open_items_fault keeps h), is)
  enter_placed {f} keeps (no_start n content m h room l g, is) =
      let x = subst (λ z. At (shares_left n) z f) (opened_in InArray 0 content m) (shares_placed keeps (g, is)) in
      (no_start n content (at m) (header h) (room_left content m room) l x.0, x.1)

  pub array_placed : {st : State} {f : Located} → KeepsError c f.error → At array_left st f → At array_left (at st) f
  array_placed keeps (arrays.not_begun h, is) = (arrays.not_begun (begin_fault keeps h), is)
  array_placed keeps (arrays.wrong_code k m b n e, is) = (arrays.wrong_code k (at m) (begun b) n e, is)
  array_placed keeps (arrays.no_data k w m b f h, is) =
      let x = enter_placed keeps (h, is) in (arrays.no_data k w (at m) (begun b) f x.0, x.1)

  pub array_fault : {st : State} {e : Error} → KeepsError c e → ArrayFault st e → ArrayFault (at st) e
  array_fault {st} {e} keeps h = (array_placed {f = record { error = e; left = array_left st e h }} keeps (h, refl)).0

  announced_fault : (F : Format) (st : State) (e : Error) → KeepsError c e → LacksAnnounced F st e → LacksAnnounced F (at st) e
  announced_fault (fixed w v) st e keeps h = data_fault (fixed w v) st e keeps h
  announced_fault (variable w v) st e keeps h = data_fault (variable w v) st e keeps h
  announced_fault (compound k w) st e keeps (inl h) = inl (lacks keeps h)
  announced_fault (compound k w) st e keeps (inr (n, mid, l, t, h)) = inr (n, at mid, l, took t, lacks keeps h)
  announced_fault unknown st e keeps h = h

  no_term_placed : (nesting more : ℕ) (b : List ℕ) (st : State) (f : Located) → nesting ≤ more → KeepsError c f.error
      → (IsByDepth f.error → (nesting ≡ more) × (depth_error st.nesting ≡ depth_error (c.deepen st.nesting)))
      → At (term_left nesting b) st f → At (term_left more b) (at st) f
  no_term_placed nesting more b st f least keeps same (wrong_size none h s, is) =
      let own = depth_error st.nesting in
      let by : IsByDepth own = by_depth (nat_lt st.nesting 128) in
      let g = fault_deeper own (depth_error (c.deepen st.nesting)) (inside_depth (nat_lt st.nesting 128)) nesting more b Size h.0 least
      (λ d. absurd (subst IsByDepth (sym d) by)) h.1 in
      (wrong_size (fault_refuses more b Size (h.0, g)) (h.0, g) (size_error keeps s), is)
  no_term_placed nesting more b st f least keeps same (wrong_term none h other, is) =
      let own = depth_error st.nesting in
      let by : IsByDepth own = by_depth (nat_lt st.nesting 128) in
      let g = fault_deeper own (depth_error (c.deepen st.nesting)) (inside_depth (nat_lt st.nesting 128)) nesting more b f.error h.0 least
      (λ d. same (subst IsByDepth (sym d) by)) h.1 in
      (wrong_term (fault_refuses more b f.error (h.0, g)) (h.0, g) other, is)

  spelling_placed : {st : State} {f : Located} → KeepsError c f.error → At spelling_left st f → At spelling_left (at st) f
  unfolding took_constructor
  spelling_placed keeps (terms.no_constructor h, is) = let x = constructor_placed keeps (h, is) in (terms.no_constructor x.0, x.1)
  spelling_placed {f} keeps (terms.no_data {c = k} {m} t l, is) =
      (terms.no_data (took_constructor t) (announced_fault (format k) m f.error keeps l), is)
  spelling_placed {st} {f} keeps (no_term {b} {m'} t u h g, is) =
      let more = c.grows st.nesting in
      let open_ = length st.saved in
      let same : IsByDepth f.error
      → (st.nesting - open_ ≡ c.deepen st.nesting - open_) × (depth_error m'.nesting ≡ depth_error (c.deepen m'.nesting)) =
      λ d. (ap (λ n. n - open_) (sym ((keeps d).0 st.nesting)), ap depth_error (sym ((keeps d).0 m'.nesting))) in
      let x = subst (λ k. At (term_left (c.deepen st.nesting - k) (t.own ++ b)) (at m') f) (sym (saved_same st))
      (no_term_placed (st.nesting - open_) (c.deepen st.nesting - open_) (t.own ++ b) m' f (omega (arith, more)) keeps same (g, is)) in
      (no_term (took_constructor t) (took u) h x.0, x.1)

  took_term : {st st' : State} {s : List ℕ} → TakesTerm st s st' → TakesTerm (at st) s (at st')
  took_term {st} {s = s} h = record {
    term = h.term;
    stands = stands h.stands;
    unshared = h.unshared;
    moved = ap at h.moved ∙ taken_past (length s) (weight_at st h.term) st;
  }

  pub term_placed : {st : State} {f : Located} → KeepsError c f.error → At term_fault_left st f → At term_fault_left (at st) f
  unfolding took_term
  term_placed keeps (terms.missing h is, place) = (terms.missing h is, place)
  term_placed keeps (in_array h shared is, place) = (in_array h shared is, place)
  term_placed keeps (misspelled h none f, place) = let x = spelling_placed keeps (f, place) in (misspelled h none x.0, x.1)
  term_placed {st} keeps (terms.too_many h full is, place) =
      (terms.too_many (took_term h) (counted_still keeps is st.quota (weight_at st h.term) full) is, place)

  pub term_fault : {st : State} {e : Error} → KeepsError c e → TermFault st e → TermFault (at st) e
  term_fault {st} {e} keeps h = (term_placed {f = record { error = e; left = term_fault_left st e h }} keeps (h, refl)).0
