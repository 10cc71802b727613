-- Whole terms that are taken and kept.
use Rattle.std.proofs.Common.{◌≡◌, ◌≤◌, ◌<◌, ◌+◌, ◌-◌, ◌%◌, ◌^◌, ◌⊎◌, ℕ, inl, inr, arith, true, false, None, Some, List, [], ◌++◌, length, take, drop, refl}
use Rattle.std.proofs.Common.{sym, ap, ◌∙◌, subst, append_assoc, append-nil, length-append}
use Rattle.std.proofs.lemmas.List.{drop_at, take-append-drop}
use Rattle.std.specs.Int.{bytes_high_first}
use Rattle.amqp_model.specs.Term.{Term, Descriptor}
use Rattle.amqp_model.specs.Constructors.{Format, fixed, variable, compound, unknown, format}
use Rattle.amqp_model.specs.Spelling.{IsKnown, Constructor, IsSpelling}
use Rattle.amqp_model.specs.Measures.{nest, weight}
use Rattle.amqp_model.proofs.Bytes.{rest, field, length-bytes}
use Rattle.amqp_model.proofs.Same.{constructor_same}
use Rattle.amqp_wire.specs.declared.error.Error.{Error}
use Rattle.amqp_wire.specs.declared.error.Error.TheVariants.{Size, Missing, LazyInArray, Limit}
use Rattle.amqp_lengths.specs.Faults.{TermFault as TermFaultIn}
use Rattle.amqp_lengths.specs.Fronts.{IsFront, Refuses}
use Rattle.amqp_lengths.specs.Lengths.{IsTerm}
use Rattle.amqp_lengths.specs.Announced.{SizeThen, content_size, IsAnnounced}
use Rattle.amqp_lengths.proofs.Announced.{announced_data, announced_once}
use Rattle.amqp_decoder.proofs.Counts.{unshared_weight}
use Rattle.amqp_decoder.specs.State.{refused_at, depth_error, IsPlaceOf, State, Has, lower, after_data, after_value, weight_at, uncounted}
use Rattle.amqp_decoder.specs.Steps.{Answers, IsExcused, Takes, Lacks, Stops, RefusesSize}
use Rattle.amqp_decoder.specs.Places.{StandsHere, StandsBefore, Located, At, IsPlaced, StopsAt, RefusesAt}
use Rattle.amqp_decoder.specs.Reading.{RefusesRead, IsLeft}
use Rattle.amqp_decoder.specs.Primitives.{standing, SpellsAs, Stands}
use Rattle.amqp_decoder.specs.Arrays.{TakesConstructor, constructor_left}
use Rattle.amqp_decoder.specs.Terms.{Keeps, IsConstructor, LacksAnnounced, NoTerm, wrong_size, wrong_term, SpellingFault, no_constructor}
use Rattle.amqp_decoder.specs.Terms.{no_data, no_term, TakesTerm, TermFault, missing, in_array, misspelled, too_many}
use Rattle.amqp_decoder.specs.Terms.{term_left, spelling_left, term_fault_left}
use Rattle.amqp_decoder.proofs.Constructed.{code_known, constructor_not, one_constructor, took_parts}
use Rattle.amqp_decoder.proofs.OneReading.{stands_same}
use Rattle.amqp_decoder.proofs.Opening.{took_both}
use Rattle.amqp_decoder.proofs.Steps.{answered, answered_so, answered_took, excused_by_source, not_lacking}
use Rattle.amqp_decoder.proofs.Places.{before_at, placed_later, either_placed, stops_as}

-- announced data that stands there isn't lacking
sized_there : (w : ℕ) (size_of : ℕ → ℕ) (m m' : State) (e : Error) (b : List ℕ)
    → SizeThen w (λ n behind. length behind ≡ size_of n) b → Takes m b m'
    → Lacks w m e ⊎ ((n : ℕ) × (st' : State) × (n < 256 ^ w) × Takes m (bytes_high_first w n) st' × Lacks (size_of n) st' e) → ⊥
sized_there w size_of m m' e b (size, behind, fits, is, long) t (inl l) =
    not_lacking w m e b (drop (length b) m.rest) l
    (omega (arith, ap length is, length-append (bytes_high_first w size) behind, length-bytes w size)) t.room t.rest
sized_there w size_of m m' e b (size, behind, fits, is, long) t (inr (n, st', few, u, l)) =
    let head = bytes_high_first w n in
    let after = drop (length b) m.rest in
    let whole : m.rest ≡ bytes_high_first w size ++ (behind ++ after) =
    t.rest ∙ ap (λ z. z ++ after) is ∙ append_assoc (bytes_high_first w size) behind after in
    let same : n ≡ size = (field w n size (drop (length head) m.rest) (behind ++ after) few fits (sym u.rest ∙ whole)).0 in
    let parts = took_parts m m' head behind (subst (λ l. Takes m l m') (is ∙ ap (λ k. bytes_high_first w k ++ behind) (sym same)) t) in
    let l_ : Lacks (size_of n) (after_data (length head) m) e = subst (λ (z : State). Lacks (size_of n) z e) u.moved l in
    not_lacking (size_of n) (after_data (length head) m) e behind (drop (length behind) (drop (length head) m.rest)) l_
    (omega (arith, long ∙ ap size_of (sym same))) parts.1.room parts.1.rest

announced_there : (F : Format) (m m' : State) (e : Error) (b : List ℕ) → IsAnnounced F b → Takes m b m' → LacksAnnounced F m e → ⊥
announced_there (fixed w value) m m' e b long t l = not_lacking w m e b (drop (length b) m.rest) l (omega arith) t.room t.rest
announced_there (variable w value) m m' e b h t l = sized_there w (λ n. n) m m' e b h t l
announced_there (compound kind w) m m' e b h t l = sized_there w (content_size kind w) m m' e b h t l
announced_there unknown m m' e b h t l = absurd h

-- a constructor and the data that its code announces
pub record Whole (c : ℕ) (a d b : List ℕ) : Type 0 where
  pub descriptors : List Descriptor
  pub few : length descriptors ≤ 128
  pub constructor : Constructor descriptors c a
  pub announced : IsAnnounced (format c) d
  pub is : b ≡ a ++ d

pub record Spelling (b : List ℕ) : Type 0 where
  pub code : ℕ
  pub own : List ℕ
  pub data_ : List ℕ
  pub whole : Whole code own data_ b

spelling : (b : List ℕ) (t : Term) → IsSpelling b t → Spelling b
unfolding IsSpelling
spelling b t (ds, c, few, (first, second, is, k, d)) =
    record {
      code = c;
      own = first;
      data_ = second;
      whole = record { descriptors = ds; few = few; constructor = k; announced = announced_data t ds c second d; is = is };
    }

-- one list begins so in one way
one_whole : (c c' : ℕ) (a a' d d' b b' x y : List ℕ) → Whole c a d b → Whole c' a' d' b' → b ++ x ≡ b' ++ y → b ≡ b'
one_whole c c' a a' d d' b b' x y h k e =
    let whole : a ++ (d ++ x) ≡ a' ++ (d' ++ y) = sym (append_assoc a d x) ∙ ap (λ l. l ++ x) (sym h.is) ∙ e ∙ ap (λ l. l ++ y) k.is
    ∙ append_assoc a' d' y in
    let first = constructor_same h.descriptors k.descriptors c c' a a' (d ++ x) (d' ++ y) h.constructor k.constructor whole in
    let data_ = subst (λ n. IsAnnounced (format n) d) first.1.1 h.announced in
    let second = announced_once (format c') d d' x y data_ k.announced (rest a a' (d ++ x) (d' ++ y) (ap length first.0) whole) in
    h.is ∙ ap (λ l. l ++ d) first.0 ∙ ap (λ l. a' ++ l) second ∙ sym k.is

-- a term that such bytes begin with is all of them
pub whole_front : (k c n : ℕ) (a d b : List ℕ) → Whole c a d b → IsFront (IsTerm k) b n → IsTerm k b
whole_front k c n a d b h f =
    let s = spelling (take n b) f.spelled.0 f.spelled.1 in
    let same : take n b ≡ b =
    one_whole s.code c s.own a s.data_ d (take n b) b (drop n b) [] s.whole h (take-append-drop n b ∙ sym (append-nil b)) in
    subst (IsTerm k) same f.spelled

refused_whole : (P : List ℕ → Type 0) (b : List ℕ) (e : Error) → Refuses P b e → P b → ⊥
refused_whole P b e r h = r.none [] (λ _. refl) b [] refl h

not_term : (k : ℕ) (b : List ℕ) (st : State) (e : Error) → NoTerm k b st e → IsTerm k b → ⊥
not_term k b st e (wrong_size r f s) h = refused_whole (IsTerm k) b Size r h
not_term k b st e (wrong_term r f o) h = refused_whole (IsTerm k) b e r h

whole_of : (st m m' : State) (ds : List Descriptor) (c : ℕ) (d : List ℕ) (t : TakesConstructor st ds c m) → Takes m d m'
    → IsAnnounced (format c) d → Whole c t.own d (t.own ++ d)
whole_of st m m' ds c d t u h = record { descriptors = ds; few = t.few; constructor = t.spelled; announced = h; is = refl }

-- where a fault stands, no term does
pub misspelled_not : (st : State) (e : Error) (s after : List ℕ) (t : Term) → SpellingFault st e → Has st.top.left (length s)
    → st.rest ≡ s ++ after → IsSpelling s t → nest t ≤ st.nesting - length st.saved → ⊥
misspelled_not st e s after t f room is spelled nested = not f
  where
    w : Spelling s
    w = spelling s t spelled

    took : Takes st s (after_data (length s) st)
    took = record {
      room = room;
      rest = is ∙ ap (λ l. s ++ l) (sym (ap (drop (length s)) is ∙ drop_at s after (length s) refl));
      moved = refl;
    }

    parts : Takes st w.own (after_data (length w.own) st) × Takes (after_data (length w.own) st) w.data_ (after_data (length s) st)
    parts = took_parts st (after_data (length s) st) w.own w.data_ (subst (λ l. Takes st l (after_data (length s) st)) w.whole.is took)

    constructor : TakesConstructor st w.whole.descriptors w.code (after_data (length w.own) st)
    constructor = record { own = w.own; few = w.whole.few; spelled = w.whole.constructor; took = parts.0 }

    not : SpellingFault st e → ⊥
    not (no_constructor g) = constructor_not st e w.whole.descriptors w.code (after_data (length w.own) st) g constructor
    not (no_data {ds} {c} {m} k l) =
        let same = one_constructor st w.whole.descriptors ds w.code c (after_data (length w.own) st) m constructor k in
        announced_there (format c) m (after_data (length s) st) e w.data_
        (subst (λ n. IsAnnounced (format n) w.data_) same.1 w.whole.announced)
        (subst (λ z. Takes z w.data_ (after_data (length s) st)) same.2 parts.1) l
    not (no_term {ds} {c} {m} {b} {m'} k u h bad) =
        let both = took_both st m m' k.own b k.took u in
        let same : s ≡ k.own ++ b =
        one_whole w.code c w.own k.own w.data_ b s (k.own ++ b) after (drop (length (k.own ++ b)) st.rest) w.whole
        (whole_of st m m' ds c b k u h) (sym is ∙ both.rest) in
        not_term (st.nesting - length st.saved) (k.own ++ b) m' e bad
        (subst (IsTerm (st.nesting - length st.saved)) same (t, spelled, nested))

-- more values stand there than may begin
pub counted_not : (st : State) (s : List ℕ) (m : State) (r : List ℕ) (t : Term) (h : TakesTerm (uncounted st) s m) → (Has st.quota (weight_at st h.term) → ⊥)
    → Stands st r t → ⊥
counted_not st s m r t h full k =
    let free : Stands (uncounted st) r t = record {
      going = k.going;
      item = k.item;
      room = k.room;
      after = k.after;
      rest = k.rest;
      spelled = k.spelled;
      nested = k.nested;
      few = tt;
    } in
    let same = stands_same (uncounted st) s r h.term t h.stands free in
    full (subst (λ x. Has st.quota (weight_at st x)) (sym same.1) k.few)

fault_not_takes : (st : State) (e : Error) (s : List ℕ) (st' : State) → TermFault st e → TakesTerm st s st' → ⊥
fault_not_takes st e s st' (missing none is) h = let x : 1 ≤ 0 = subst (λ o. Has o 1) none h.stands.item in omega arith
fault_not_takes st e s st' (in_array item shared is) h = shared h.unshared
fault_not_takes st e s st' (misspelled item none f) h =
    let k = h.stands in misspelled_not st e s k.after h.term f k.room k.rest
    (subst (λ o. SpellsAs (standing o s) h.term) none k.spelled) k.nested
fault_not_takes st e s st' (too_many {s = r} {m} g full is) h = counted_not st r m s h.term g full h.stands

-- the parts of a term that were kept
record Parts (c : ℕ) (st m' : State) (l : List ℕ) : Type 0 where
  pub descriptors : List Descriptor
  pub mid : State
  pub constructor : TakesConstructor st descriptors c mid
  pub data_ : List ℕ
  pub took : Takes mid data_ m'
  pub announced : IsAnnounced (format c) data_
  pub is : l ≡ constructor.own ++ data_
  pub nesting : m'.nesting - length m'.saved ≡ st.nesting - length st.saved

parts_of : (c : ℕ) (a b l : List ℕ) (st m m' : State) → a ≡ [] → Keeps (IsConstructor c) a st b m
    → Keeps (IsAnnounced (format c)) b m l m' → Parts c st m' l
parts_of c a b l st m m' empty h k = record {
  descriptors = h.is.0;
  mid = m;
  constructor = record { own = h.own; few = h.is.1; spelled = h.is.2; took = h.took };
  data_ = k.own;
  took = k.took;
  announced = k.is;
  is = k.added ∙ ap (λ z. z ++ k.own) (h.added ∙ ap (λ z. z ++ h.own) empty);
  nesting = ap (λ (z : State). z.nesting - length z.saved) k.took.moved ∙ ap (λ (z : State). z.nesting - length z.saved) h.took.moved;
}

pub term_kept : (c n : ℕ) (a b l : List ℕ) (st m m' new : State) → a ≡ [] → Keeps (IsConstructor c) a st b m
    → Keeps (IsAnnounced (format c)) b m l m' → IsFront (IsTerm (m'.nesting - length m'.saved)) l n → new ≡ m'
    → Takes st l new × IsTerm (st.nesting - length st.saved) l
term_kept c n a b l st m m' new empty h k f same =
    let p = parts_of c a b l st m m' empty h k in
    let both : Takes st (p.constructor.own ++ p.data_) m' = took_both st p.mid m' p.constructor.own p.data_ p.constructor.took p.took in
    let w : Whole c p.constructor.own p.data_ l =
    record {
      descriptors = p.descriptors;
      few = p.constructor.few;
      constructor = p.constructor.spelled;
      announced = p.announced;
      is = p.is;
    } in (
      subst (Takes st l) (sym same) (subst (λ z. Takes st z m') (sym p.is) both),
      subst (λ j. IsTerm j l) p.nesting (whole_front (m'.nesting - length m'.saved) c n p.constructor.own p.data_ l w f),
    )

pub known_code : (c : ℕ) (b : List ℕ) → IsConstructor c b → IsKnown (format c)
known_code c b (ds, few, h) = code_known ds c b h

-- at a place in these bytes, which were taken and began at the start
behind_start : (start at long rest size : ℕ) → at ≤ long → (start + (long + rest)) % 2 ^ 64 ≡ size
    → ((start + at) % 2 ^ 64 + (long - at + rest)) % 2 ^ 64 ≡ size
behind_start start at long rest size within h = omega (arith, within, h)

module _ (nesting : ℕ) (b : List ℕ) (st : State) (at start : ℕ) (new : State) (within : at ≤ length b)
    (there : new.source.fault ≡ (start + at) % 2 ^ 64) (began : (start + (length b + length st.rest)) % 2 ^ 64 ≡ st.failed.size) where
  stands_there : StandsBefore (length b - at + length st.rest) st new
  stands_there =
      before_at st (length b - at + length st.rest) ((start + at) % 2 ^ 64) new there
      (behind_start start at (length b) (length st.rest) st.failed.size within began)

  -- they have the wrong size
  pub size_refused : (e : Error) → Refuses (IsTerm nesting) b Size → TermFaultIn (depth_error st.nesting) nesting b Size (length b - at)
      → RefusesSize 0 st e new → StopsAt false (At (term_left nesting b) st) st e new
  size_refused e none f s = record {
    kept = s.kept;
    why = elim s.why [
      | inl x ↦ inl (inr x)
      | inr x ↦ inr (length b - at + length st.rest, (wrong_size none (length b - at, f) x, refl), stands_there)
    ];
  }

  -- or are otherwise no term
  pub term_refused_at : (e d : Error) → Refuses (IsTerm nesting) b d → TermFaultIn (depth_error st.nesting) nesting b d (length b - at)
      → (d ≡ Size → ⊥) → e ≡ d → new ≡ refused_at d new.source.fault st → StopsAt false (At (term_left nesting b) st) st e new
  term_refused_at e d none f other is kept = record {
    kept = answered st new e d kept is;
    why = subst (λ x. IsExcused false x new ⊎ IsPlaced (At (term_left nesting b) st) st x new) (sym is)
        (inr (length b - at + length st.rest, (wrong_term none (length b - at, f) other, refl), stands_there));
  }

pub no_constructor_kept : (st : State) (e : Error) (new : State) → StopsAt true (At constructor_left st) st e new
    → StopsAt true (At spelling_left st) st e new
no_constructor_kept st e new s = stops_as {st = st} (λ f x. (no_constructor x.0, x.1)) s

-- of a term that begins at the place
pub no_data_kept : (c : ℕ) (a b : List ℕ) (st m : State) (e : Error) (place : ℕ) (new : State) → Keeps (IsConstructor c) a st b m
    → Stops true (LacksAnnounced (format c) m) m e new → new.source.fault ≡ place → IsPlaceOf place st
    → StopsAt true (At spelling_left st) st e new
no_data_kept c a b st m e place new h s there at =
    let t : TakesConstructor st h.is.0 c m = record { own = h.own; few = h.is.1; spelled = h.is.2; took = h.took } in
    record {
      kept = answered_took h.took s.kept;
      why = elim s.why [
        | inl x ↦ inl x
        | inr x ↦ inr (length st.rest, (no_data t x, refl), before_at st (length st.rest) _ new there at)
      ];
    }

-- the term began so many bytes in front of what is left behind its own
pub began_before : (c place : ℕ) (a b l : List ℕ) (st m m' : State) → a ≡ [] → Keeps (IsConstructor c) a st b m
    → Keeps (IsAnnounced (format c)) b m l m' → IsPlaceOf place st → (place + (length l + length m'.rest)) % 2 ^ 64 ≡ m'.failed.size
began_before c place a b l st m m' empty h k at =
    let p = parts_of c a b l st m m' empty h k in
    let both : Takes st (p.constructor.own ++ p.data_) m' = took_both st p.mid m' p.constructor.own p.data_ p.constructor.took p.took in
    let whole : Takes st l m' = subst (λ z. Takes st z m') (sym p.is) both in
    let long : length st.rest ≡ length l + length m'.rest =
    ap length whole.rest ∙ length-append l (drop (length l) st.rest) ∙ ap (λ (z : State). length l + length z.rest) (sym whole.moved) in
    ap (λ n. (place + n) % 2 ^ 64) (sym long) ∙ at ∙ ap (λ (z : State). z.failed.size) (sym whole.moved)

pub no_term_kept : (c : ℕ) (a b l : List ℕ) (st m m' : State) (e : Error) (new : State) → a ≡ [] → Keeps (IsConstructor c) a st b m
    → Keeps (IsAnnounced (format c)) b m l m' → StopsAt false (At (term_left (m'.nesting - length m'.saved) l) m') m' e new
    → StopsAt true (At spelling_left st) st e new
no_term_kept c a b l st m m' e new empty h k s =
    let p = parts_of c a b l st m m' empty h k in
    let moved = λ (f : Located) (x : At (term_left (m'.nesting - length m'.saved) l) m' f).
    subst (λ j. At (term_left j (p.constructor.own ++ p.data_)) m' f) p.nesting
    (subst (λ z. At (term_left (m'.nesting - length m'.saved) z) m' f) p.is x) in
    let same : m'.failed ≡ st.failed = ap (λ (z : State). z.failed) k.took.moved ∙ ap (λ (z : State). z.failed) h.took.moved in
    record {
      kept = answered_took h.took (answered_took k.took s.kept);
      why = elim s.why [
        | inl x ↦ inl (excused_by_source true e new x)
        | inr x ↦ inr (placed_later {g = At spelling_left st} st m' new same
            (λ f y. let z = moved f y in (no_term p.constructor p.took p.announced z.0, z.1)) x)
      ];
    }

-- a term was taken, and counts
pub term_taken : (st m : State) (b : List ℕ) → st.error ≡ None → Has st.top.items 1 → st.top.shared ≡ None → Takes st b m
    → (h : IsTerm (st.nesting - length st.saved) b) → Has m.quota (weight h.0 false)
    → TakesTerm st b (record m { top = record m.top { items = lower m.top.items 1 }; quota = lower m.quota (weight h.0 false) })
term_taken st m b going item none t h few = record {
  term = h.0;
  stands = record {
    going = going;
    item = item;
    room = t.room;
    after = drop (length b) st.rest;
    rest = t.rest;
    spelled = subst (λ o. SpellsAs (standing o b) h.0) (sym none) h.1;
    nested = h.2;
    few = subst (Has st.quota) (sym (unshared_weight st.top.shared h.0 none)) (subst (λ (z : State). Has z.quota (weight h.0 false)) t.moved few);
  };
  unshared = none;
  moved = ap (λ (z : State). record z { top = record z.top { items = lower z.top.items 1 }; quota = lower z.quota (weight h.0 false) }) t.moved
      ∙ ap (λ k. after_value (length b) k st) (sym (unshared_weight st.top.shared h.0 none));
}

-- what a call that reads terms answers
abbrev Any : {A : Type 0} → (A → List ℕ) → State → A → State → Type 0
Any items st v st' = TakesTerm st (items v) st'

term_refused : {A : Type 0} (items : A → List ℕ) (st : State) (e : Error) (new : State) → st.error ≡ None → Answers st e new
    → IsExcused true e new ⊎ IsPlaced (At term_fault_left st) st e new → RefusesAt true (Any items) (At term_fault_left) st e new
term_refused items st e new going kept why = record {
  kept = kept;
  again = λ d x. absurd (cc);
  named = λ g. why;
  none = elim why [ inl x ↦ inl x | inr (left, x, p) ↦ inr (λ v b h. fault_not_takes st e (items v) b x.0 h) ];
}

-- none is left, or it is an item of an array
pub term_missing : {A : Type 0} (items : A → List ℕ) (st : State) (e : Error) (new : State)
    → RefusesRead false IsLeft (λ st e. (st.top.items ≡ Some 0) × (e ≡ Missing)) st e new → StandsHere st new
    → RefusesAt true (Any items) (At term_fault_left) st e new
term_missing items st e new r here = record {
  kept = r.kept;
  again = r.again;
  named = λ g. elim (r.named g) [
    | inl x ↦ inl (excused_by_source true e new x)
    | inr x ↦ inr (length st.rest, (missing x.0 x.1, refl), here g)
  ];
  none = elim r.none [
    | inl x ↦ inl (excused_by_source true e new x)
    | inr f ↦ inr (λ v b h. f tt st (record { going = h.stands.going; item = h.stands.item; kept = refl }))
  ];
}

pub term_in_array : {A : Type 0} (items : A → List ℕ) (st : State) (e : Error) (new : State) → st.error ≡ None → Has st.top.items 1
    → (st.top.shared ≡ None → ⊥) → e ≡ LazyInArray → new ≡ refused_at e new.source.fault st → IsPlaceOf new.source.fault st
    → RefusesAt true (Any items) (At term_fault_left) st e new
term_in_array items st e new going item shared is kept p =
    term_refused items st e new going (answered_so st new e kept) (inr (length st.rest, (in_array item shared is, refl), p))

pub term_misspelled : {A : Type 0} (items : A → List ℕ) (st : State) (e : Error) (new : State) → st.error ≡ None → Has st.top.items 1
    → st.top.shared ≡ None → StopsAt true (At spelling_left st) st e new → RefusesAt true (Any items) (At term_fault_left) st e new
term_misspelled items st e new going item none s =
    term_refused items st e new going s.kept (either_placed {f = At spelling_left st} {g = At term_fault_left st} st st new refl (λ f x. (misspelled item none x.0, x.1)) s.why)

-- one value more than may begin
pub term_full : {A : Type 0} (items : A → List ℕ) (st m : State) (b : List ℕ) (e : Error) (new : State) → st.error ≡ None
    → Has st.top.items 1 → st.top.shared ≡ None → Takes st b m → (h : IsTerm (st.nesting - length st.saved) b)
    → (Has m.quota (weight h.0 false) → ⊥) → e ≡ Limit → new ≡ refused_at Limit new.source.fault m → (place : ℕ) → new.source.fault ≡ place
    → IsPlaceOf place st → RefusesAt true (Any items) (At term_fault_left) st e new
unfolding term_taken
term_full items st m b e new going item none t h full is kept place there at =
    let free : Takes (uncounted st) b (uncounted m) = record { room = t.room; rest = t.rest; moved = ap uncounted t.moved } in
    let taken = term_taken (uncounted st) (uncounted m) b going item none free h tt in
    let fault : TermFault st e =
    too_many taken (λ x. subst (λ (z : State). Has z.quota (weight h.0 false) → ⊥) t.moved full
    (subst (Has st.quota) (unshared_weight st.top.shared h.0 none) x)) is in
    term_refused items st e new going (answered_took t (answered m new e Limit kept is))
    (inr (length st.rest, (fault, refl), before_at st (length st.rest) _ new there at))

pub nests_at_most : (k n saved : ℕ) → k ≤ n - saved → n ≤ 128 → k ≤ 128
nests_at_most k n saved h most = omega arith
