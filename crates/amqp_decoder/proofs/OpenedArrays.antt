-- How an array is begun: a code, a size, a count, and the constructor that its items share.
use Rattle.std.proofs.Common.{◌≡◌, ◌≤◌, ◌<◌, ℕ, ◌⊎◌, inl, inr, Bool, true, false, ◌↔◌, IsTrue, Some, None, Result, Ok, Err, IfOk, IfErr}
use Rattle.std.proofs.Common.{List, ◌+◌, ◌%◌, ◌^◌, length, max, refl, sym, ap, ◌∙◌, subst, arith}
use Rattle.amqp_model.specs.Term.{Descriptor, array}
use Rattle.amqp_model.specs.Constructors.{compound, format}
use Rattle.amqp_model.specs.Spelling.{IsKnown, HasWidthZero}
use Rattle.amqp_wire.specs.declared.error.Error.{Error}
use Rattle.amqp_wire.specs.declared.error.Error.TheVariants.{ZeroWidthItems}
use Rattle.amqp_wire.specs.Codes.{refusal_of}
use Rattle.amqp_decoder.specs.declared.frame.Place.{Place}
use Rattle.amqp_decoder.specs.declared.frame.Place.TheVariants.{InArray}
use Rattle.amqp_decoder.specs.State.{refused_at, IsPlaceOf, State, depth_error, Has, in_container}
use Rattle.amqp_decoder.specs.Steps.{Answers, IsExcused, NoRoom, Stops}
use Rattle.amqp_decoder.specs.Places.{Starts, StandsHere, At, IsPlaced, StopsAt, RefusesAt, AnswersAt}
use Rattle.amqp_decoder.specs.Reading.{RefusesRead, ReadsCode, BeginFault}
use Rattle.amqp_decoder.specs.Containers.{ReadsHeader, HeaderFault}
use Rattle.amqp_decoder.specs.Arrays.{TakesConstructor, constructor_left, shares_left, enter_left, array_left, IsFlat, Shares, no_items, shared_by, SharesFault, no_constructor}
use Rattle.amqp_decoder.specs.Arrays.{zero_width, too_nested, Starts as StartsItems, EntersArray, OpenItemsFault, EnterArrayFault, no_header, no_room, too_deep}
use Rattle.amqp_decoder.specs.Arrays.{no_items_opened, no_start}
use Rattle.amqp_decoder.specs.Arrays.{OpensArray, ArrayFault, not_begun, wrong_code, no_data}
use Rattle.amqp_decoder.proofs.ReadPrimitives.{begun_same, fault_not_begun}
use Rattle.amqp_decoder.proofs.Steps.{answered, answered_begun, answered_took, excused_by_source}
use Rattle.amqp_decoder.proofs.Places.{before_at, either_placed, stops_as, stops_later}
use Rattle.amqp_decoder.proofs.Opening.{header_same, header_not_faulty, one_width}
use Rattle.amqp_decoder.proofs.Constructed.{code_known, constructor_not, one_constructor}

known : (st : State) (ds : List Descriptor) (c : ℕ) (m : State) → TakesConstructor st ds c m → IsKnown (format c)
known st ds c m t = code_known ds c t.own t.spelled

fits_behind : (st : State) (ds : List Descriptor) (c : ℕ) (m : State) (flat : Bool) → TakesConstructor st ds c m
    → (IsKnown (format c) → IsTrue flat ↔ IsFlat ds (format c)) → (flat ≡ true) ⊎ (length m.saved ≤ m.nesting)
    → IsFlat ds (format c) ⊎ (length st.saved ≤ st.nesting)
fits_behind st ds c m flat t is (inl x) = inl ((is (known st ds c m t)).0 x)
fits_behind st ds c m flat t is (inr x) = inr (subst (λ (z : State). length z.saved ≤ z.nesting) t.took.moved x)

pub shares_all : (n : ℕ) (st : State) (ds : List Descriptor) (c : ℕ) (m m' : State) (new : State) (zero flat : Bool) → (n ≡ 0 → ⊥)
    → st.top.place ≡ InArray → TakesConstructor st ds c m → zero ≡ false → (IsKnown (format c) → IsTrue zero ↔ HasWidthZero (format c))
    → (IsKnown (format c) → IsTrue flat ↔ IsFlat ds (format c))
    → ((flat ≡ true) ⊎ (length m.saved ≤ m.nesting)) × (m' ≡ m)
    → new ≡ record m' { top = record m'.top { place = InArray; items = Some n; shared = Some (ds, c) } } → Shares n st new
shares_all n st ds c m m' new zero flat some here t wide zero_is flat_is (fits, same) is =
    shared_by ds c m some t (λ z. let x = (zero_is (known st ds c m t)).1 z in absurd (cc)) (fits_behind st ds c m flat t flat_is fits)
    (is ∙ ap (λ (z : State). record z { top = record z.top { place = InArray; items = Some n; shared = Some (ds, c) } }) same
    ∙ ap (λ (p : Place). record m { top = record m.top { place = p; items = Some n; shared = Some (ds, c) } })
    (sym (ap (λ (z : State). z.top.place) t.took.moved ∙ here)))

pub stopped_unconstructed : (n : ℕ) (st : State) (e : Error) (new : State) → StopsAt true (At constructor_left st) st e new
    → StopsAt true (At (shares_left n) st) st e new
stopped_unconstructed n st e new s = stops_as {st = st} (λ f h. (no_constructor h.0, h.1)) s

-- the constructor as a whole, which begins at the place
pub stopped_zero : (n : ℕ) (st : State) (ds : List Descriptor) (c : ℕ) (m : State) (zero : Bool) (e : Error) (place : ℕ) (new : State)
    → (n ≡ 0 → ⊥) → TakesConstructor st ds c m → zero ≡ true → (IsKnown (format c) → IsTrue zero ↔ HasWidthZero (format c))
    → e ≡ ZeroWidthItems → Answers m e new → new.source.fault ≡ place → IsPlaceOf place st
    → StopsAt true (At (shares_left n) st) st e new
stopped_zero n st ds c m zero e place new some t wide zero_is is kept there at = record {
  kept = answered_took t.took kept;
  why = inr (length st.rest, (zero_width ds c m some t ((zero_is (known st ds c m t)).0 wide) is, refl), before_at st (length st.rest) _ new there at);
}

pub stopped_nested : (n : ℕ) (st : State) (ds : List Descriptor) (c : ℕ) (m : State) (flat : Bool) (e : Error) (place : ℕ) (new : State)
    → (n ≡ 0 → ⊥) → TakesConstructor st ds c m → (IsKnown (format c) → IsTrue flat ↔ IsFlat ds (format c))
    → (flat ≡ false) × (e ≡ depth_error m.nesting) × (m.nesting < length m.saved)
    × (new ≡ refused_at (depth_error m.nesting) new.source.fault m)
    → new.source.fault ≡ place → IsPlaceOf place st → StopsAt true (At (shares_left n) st) st e new
stopped_nested n st ds c m flat e place new some t flat_is (not_flat, is, deep, kept) there at =
    let fault : SharesFault n st e =
    too_nested ds c m some t (λ f. let x = (flat_is (known st ds c m t)).1 f in absurd (cc))
    (subst (λ (z : State). z.nesting < length z.saved) t.took.moved deep)
    (subst (λ (z : State). e ≡ depth_error z.nesting) t.took.moved is) in
    record {
      kept = answered_took t.took (answered m new e (depth_error m.nesting) kept is);
      why = inr (length st.rest, (fault, refl), before_at st (length st.rest) _ new there at);
    }

shares_not : (n : ℕ) (st : State) (e : Error) (st' : State) → SharesFault n st e → Shares n st st' → ⊥
shares_not n st e st' (no_constructor f) (no_items ds c none t) = constructor_not st e ds c st' f t
shares_not n st e st' (no_constructor f) (shared_by ds c m some t wide fits is) = constructor_not st e ds c m f t
shares_not n st e st' (zero_width ds c m some t z is) (no_items es k none u) = some none
shares_not n st e st' (zero_width ds c m some t z is) (shared_by es k m' more u wide fits same) =
    wide (subst (λ j. HasWidthZero (format j)) (one_constructor st ds es c k m m' t u).1 z)
shares_not n st e st' (too_nested ds c m some t uneven deep is) (no_items es k none u) = some none
shares_not n st e st' (too_nested ds c m some t uneven deep is) (shared_by es k m' more u wide (inl flat) same) =
    let s = one_constructor st ds es c k m m' t u in
    uneven (subst (λ j. IsFlat ds (format j)) (sym s.1) (subst (λ l. IsFlat l (format k)) (sym s.0) flat))
shares_not n st e st' (too_nested ds c m some t uneven deep is) (shared_by es k m' more u wide (inr few) same) = omega arith

starts_not : (n k : ℕ) (st : State) (e : Error) (st' : State) → 0 < max n k → SharesFault n st e → StartsItems n k st st' → ⊥
starts_not n k st e st' some f (inl x) = omega (arith, x.0)
starts_not n k st e st' some f (inr x) = shares_not n st e st' f x.1

enters_not : (w : ℕ) (st : State) (n : ℕ) (st' : State) (e : Error) → EnterArrayFault w st e → EntersArray w st n st' → ⊥
enters_not w st n st' e (no_items_opened (no_header f)) d = header_not_faulty false w st n d.content d.mid e f d.header
enters_not w st n st' e (no_items_opened (no_room i k m h full)) d =
    let s = header_same false w st n d.content i k d.mid m d.header h in
    full.less (subst (Has m.top.left) s.1 (subst (λ (z : State). Has z.top.left d.content) s.2 d.room))
enters_not w st n st' e (no_items_opened (too_deep i k m h deep is)) d = let few = d.few in omega (arith, deep, few)
enters_not w st n st' e (no_start i k m h room some f) d =
    let s = header_same false w st n d.content i k d.mid m d.header h in
    starts_not i k (in_container InArray 0 k m) e st' some f
    (subst (λ z. StartsItems i k (in_container InArray 0 k z) st') s.2
    (subst (λ z. StartsItems i z (in_container InArray 0 z d.mid) st') s.1
    (subst (λ z. StartsItems z d.content (in_container InArray 0 d.content d.mid) st') s.0 d.starts)))

pub arrays_not : (st : State) (n : ℕ) (st' : State) (e : Error) → ArrayFault st e → OpensArray st n st' → ⊥
arrays_not st n st' e (not_begun f) o = fault_not_begun st e o.code o.mid f o.begun
arrays_not st n st' e (wrong_code c m g never is) o = let s = begun_same st c o.code m o.mid g o.begun in
    never o.width (ap format s.0 ∙ o.announced)
arrays_not st n st' e (no_data c w m g f fault) o =
    let s = begun_same st c o.code m o.mid g o.begun in
    let same : w ≡ o.width = one_width (format o.code) array w o.width (ap format (sym s.0) ∙ f) o.announced in
    enters_not o.width o.mid n st' e (subst (λ z. EnterArrayFault o.width z e) s.1 (subst (λ z. EnterArrayFault z m e) same fault)) o.data_

array_refused : (st : State) (e : Error) (new : State) → st.error ≡ None → Answers st e new
    → IsExcused true e new ⊎ IsPlaced (At array_left st) st e new → RefusesAt true OpensArray (At array_left) st e new
array_refused st e new going kept why = record {
  kept = kept;
  again = λ d x. absurd (cc);
  named = λ g. why;
  none = elim why [ inl x ↦ inl x | inr (left, x, p) ↦ inr (λ n b o. arrays_not st n b e x.0 o) ];
}

pub array_unbegun : (st : State) (e : Error) (new : State) → RefusesRead false ReadsCode BeginFault st e new → StandsHere st new
    → RefusesAt true OpensArray (At array_left) st e new
array_unbegun st e new r here = record {
  kept = r.kept;
  again = r.again;
  named = λ g. elim (r.named g) [
    | inl x ↦ inl (excused_by_source true e new x)
    | inr x ↦ inr (length st.rest, (not_begun x, refl), here g)
  ];
  none = elim r.none [ inl x ↦ inl (excused_by_source true e new x) | inr f ↦ inr (λ n b o. f o.code o.mid o.begun) ];
}

-- a call that began at the place, to a decoder that hadn't refused
began_at : (st m : State) (c place : ℕ) → ReadsCode st c m → Starts place st → (place + length st.rest) % 2 ^ 64 ≡ m.failed.size
began_at st m c place g s = s.here g.going ∙ ap (λ (z : State). z.failed.size) (sym g.moved)

pub array_other : (st : State) (c : ℕ) (m : State) (e : Error) (place : ℕ) (new : State) → ReadsCode st c m
    → ((w : ℕ) → format c ≡ compound array w → ⊥) → e ≡ refusal_of c → Answers m e new → new.source.fault ≡ place → Starts place st
    → RefusesAt true OpensArray (At array_left) st e new
array_other st c m e place new g never is kept there s =
    array_refused st e new g.going (answered_begun g kept)
    (inr (length st.rest, (wrong_code c m g never is, refl), before_at st (length st.rest) _ new there (s.here g.going)))

pub reads_array : (c w : ℕ) (st m new : State) (place : ℕ) (r : Result ℕ Error) → ReadsCode st c m → format c ≡ compound array w
    → Starts place st → IfOk r (λ n. EntersArray w m n new)
    → ((own : ℕ) → (place + own) % 2 ^ 64 ≡ m.failed.size → IfErr r (λ e. StopsAt true (At (enter_left own w) m) m e new))
    → AnswersAt true OpensArray (At array_left) st r new
reads_array c w st m new place (Ok n) g f s d h = record { code = c; width = w; mid = m; begun = g; announced = f; data_ = d }
reads_array c w st m new place (Err e) g f s d h =
    let stopped = h (length st.rest) (began_at st m c place g s) in
    array_refused st e new g.going (answered_begun g stopped.kept)
    (either_placed {f = At (enter_left (length st.rest) w) m} {g = At array_left st} st m new (ap (λ (z : State). z.failed) g.moved) (λ x y. (no_data c w m g f y.0, y.1)) stopped.why)

-- the steps behind the code
pub stopped_header : (w : ℕ) (st : State) (e : Error) (new : State) → Stops false (HeaderFault false w st) st e new
    → Stops true (OpenItemsFault w st) st e new
stopped_header w st e new s =
    record { kept = s.kept; why = elim s.why [ inl x ↦ inl (excused_by_source true e new x) | inr x ↦ inr (no_header x) ] }

pub stopped_open : (w n k : ℕ) (st m : State) (e : Error) (new : State) → ReadsHeader false w st n k m
    → Stops false (λ e. NoRoom k m e ⊎ ((m.nesting < length m.saved) × (e ≡ depth_error m.nesting))) m e new → Stops true (OpenItemsFault w st) st e new
stopped_open w n k st m e new h s = record {
  kept = answered_took h.took s.kept;
  why = elim s.why [
    | inl x ↦ inl (excused_by_source true e new x)
    | inr x ↦ elim x [
      | inl y ↦ inr (no_room n k m h y)
      | inr y ↦ inr (too_deep n k m h (subst (λ (z : State). z.nesting < length z.saved) h.took.moved y.0)
          (subst (λ (z : State). e ≡ depth_error z.nesting) h.took.moved y.1))
    ]
  ];
}

pub stopped_start : (w n k : ℕ) (st m m' : State) (e : Error) (new : State) → ReadsHeader false w st n k m → Has m.top.left k
    → 0 < max n k → m' ≡ in_container InArray 0 k m → (own : ℕ) → StopsAt true (At (shares_left n) m') m' e new
    → StopsAt true (At (enter_left own w) st) st e new
stopped_start w n k st m m' e new h room some is own s =
    stops_later {st = st} {m = m'} (ap (λ (z : State). z.failed) is ∙ ap (λ (z : State). z.failed) h.took.moved)
    (λ f x. let y = subst (λ z. At (shares_left n) z f) is x in (no_start n k m h room some y.0, y.1)) s

-- as far as its items, of an array that begins at the place
pub stopped_items : (w : ℕ) (st : State) (e : Error) (place : ℕ) (new : State) → Stops true (OpenItemsFault w st) st e new
    → new.source.fault ≡ place → (own : ℕ) → (place + own) % 2 ^ 64 ≡ st.failed.size → StopsAt true (At (enter_left own w) st) st e new
stopped_items w st e place new s there own at = record {
  kept = s.kept;
  why = elim s.why [ inl x ↦ inl x | inr x ↦ inr (own, (no_items_opened x, refl), before_at st own _ new there at) ];
}

entered_few : (w n k : ℕ) (st m : State) → ReadsHeader false w st n k m → length m.saved ≤ m.nesting → length st.saved ≤ st.nesting
entered_few w n k st m h few = subst (λ (z : State). length z.saved ≤ z.nesting) h.took.moved few

pub enters_none : (w n k : ℕ) (st m m' : State) → ReadsHeader false w st n k m → Has m.top.left k × (length m.saved ≤ m.nesting)
    × (m' ≡ in_container InArray 0 k m) → max n k ≡ 0 → EntersArray w st n m'
enters_none w n k st m m' h (room, few, is) none =
    record { content = k; mid = m; header = h; room = room; few = entered_few w n k st m h few; starts = inl (none, is) }

pub enters_all : (w n k : ℕ) (st m m' : State) (new : State) → ReadsHeader false w st n k m
    → Has m.top.left k × (length m.saved ≤ m.nesting) × (m' ≡ in_container InArray 0 k m) → 0 < max n k → Shares n m' new
    → EntersArray w st n new
enters_all w n k st m m' new h (room, few, is) some s =
    record {
      content = k;
      mid = m;
      header = h;
      room = room;
      few = entered_few w n k st m h few;
      starts = inr (some, subst (λ z. Shares n z new) is s);
    }
