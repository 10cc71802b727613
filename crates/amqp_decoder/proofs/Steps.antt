-- How the steps of a call follow one another.
use Rattle.std.proofs.Common.{◌≡◌, ◌≤◌, ◌<◌, ℕ, ◌-◌, inl, inr, Bool, true, false, cond, Option, Some, None, List, [], ◌∷◌, ◌++◌, length, drop, get_or}
use Rattle.std.proofs.Common.{Result, Ok, Err, unwrap_or, refl, sym, ap, ◌∙◌, subst, arith, suc, zero}
use Rattle.std.proofs.lemmas.List.{length-append}
use Rattle.std.proofs.Math.Nat.{lt_of_not-le}
use Rattle.amqp_model.specs.Term.{Descriptor}
use Rattle.amqp_wire.specs.declared.error.Error.{Error}
use Rattle.amqp_wire.specs.declared.error.Error.TheVariants.{Cut, Limit}
use Rattle.amqp_decoder.specs.State.{refused_at, Open, State, Has, lower, bound_of, after_value, announced, counted_in, uncounted}
use Rattle.amqp_decoder.specs.Steps.{Answers, RefusesBy, SourceFailed, IsExcused, Pulls, Misses, Takes, Lacks, cut_open, past_limit, cut_inside, too_long}
use Rattle.amqp_decoder.specs.Steps.{Began, Fails, Goes, GoesOn, Refused, Tries, FallsShort, NoRoom, Stops, asked_in, SizeError, cut, wrong, past, RefusesSize}
use Rattle.amqp_decoder.specs.Reading.{RefusesRead, IsFirst, IsFirstShared, ReadsCode, BeginFault, no_code, one_too_many}

-- a call that takes no memory is excused by its source alone
pub source_failed : (e : Error) (st : State) → IsExcused false e st → SourceFailed e st
source_failed e st (inl (x, y)) = absurd (cc)
source_failed e st (inr x) = x

pub excused_by_source : (takes : Bool) (e : Error) (st : State) → IsExcused false e st → IsExcused takes e st
excused_by_source takes e st x = inr (source_failed e st x)

-- the error was kept
pub answered : (st new : State) (e d : Error) → new ≡ refused_at d new.source.fault st → e ≡ d → Answers st e new
answered st new e d h is =
    record { error = ap (λ (x : State). x.error) h ∙ ap Some (sym is); source = inl (ap (λ (x : State). x.failed) h) }

pub answered_so : (st new : State) (e : Error) → new ≡ refused_at e new.source.fault st → Answers st e new
answered_so st new e h = answered st new e e h refl

-- a decoder that had kept none keeps it
pub first_kept : {error : Error} {st : State} {e : Error} {new : State} → st.error ≡ None → RefusesBy error st e new → Answers st e new
first_kept {error} {st} {e} {new} going refused = let h = refused going in answered st new e error h.1 h.0

-- the refused call came after others
pub answered_later : {st m : State} {e : Error} {new : State} → m.failed ≡ st.failed → Answers m e new → Answers st e new
answered_later same a = record { error = a.error; source = elim a.source [ inl x ↦ inl (x ∙ same) | inr x ↦ inr x ] }

pub answered_took : {st : State} {s : List ℕ} {m : State} {e : Error} {new : State} → Takes st s m → Answers m e new → Answers st e new
answered_took t a = answered_later (ap (λ (x : State). x.failed) t.moved) a

pub answered_begun : {st : State} {c : ℕ} {m : State} {e : Error} {new : State} → ReadsCode st c m → Answers m e new → Answers st e new
answered_begun g a = answered_later (ap (λ (x : State). x.failed) g.moved) a

-- the open container's bytes are lowered by n
abbrev pub lowered : ℕ → State → State
lowered n st = record st { top = record st.top { left = lower st.top.left n } }

bound_left_by : (sized : Bool) (o : Option ℕ) (l : ℕ) → cond sized o None ≡ Some l → o ≡ Some l
bound_left_by true o l e = e
bound_left_by false o l e = absurd (cc)

-- what a size leaves is left
pub bound_left : (f : Open) (l : ℕ) → bound_of f ≡ Some l → f.left ≡ Some l
bound_left f l e = bound_left_by f.sized f.left l e

size_lacks : (own n l : ℕ) (st : State) (e : Error) → bound_of st.top ≡ Some l → l < n → SizeError own st e → Lacks n st e
size_lacks own n l st e h less (past none full is) = absurd (cc)
size_lacks own n l st e h less (cut fits short is) =
    cut_inside h (inl less) (subst (λ o. length st.rest < asked_in o own (announced st)) h short) is
size_lacks own n l st e h less (wrong fits there is) = too_long h less (subst (λ o. asked_in o own (announced st) ≤ length st.rest) h there) is

missed_by : (n : ℕ) (st : State) (o : Option ℕ) (e : Error) → bound_of st.top ≡ o → Has st.top.left n → e ≡ Cut → length st.rest < n
    → Lacks n st e
missed_by n st None e h room is short = cut_open h room short is
missed_by n st (Some l) e h room is short =
    let fits : Has (Some l) n = subst (λ o. Has o n) (bound_left st.top l h) room in
    cut_inside h (inr short) (omega (arith, fits, ap (λ o. unwrap_or o 0) h)) is

pub missed_lacks : (n : ℕ) (st : State) (e : Error) → Has st.top.left n → e ≡ Cut → length st.rest < n → Lacks n st e
missed_lacks n st e room is short = missed_by n st (bound_of st.top) e refl room is short

-- a size was refused for which there is no room
room_lacks : (n : ℕ) (st : State) (e : Error) (o : Option ℕ) → bound_of st.top ≡ o → (Has st.top.left n → ⊥) → SizeError n st e → Lacks n st e
room_lacks n st e None h full (cut fits short is) = absurd (full (fits h))
room_lacks n st e None h full (wrong fits there is) = absurd (full (fits h))
room_lacks n st e None h full (past b less is) = past_limit b less is
room_lacks n st e (Some l) h full x =
    size_lacks n n l st e h (lt_of_not-le (λ y. full (subst (λ o. Has o n) (sym (bound_left st.top l h)) y))) x

pub short_of_room : (n : ℕ) (st : State) (e : Error) (new : State) → (Has st.top.left n → ⊥) → RefusesSize n st e new → FallsShort n st e new
short_of_room n st e new full r =
    record { kept = r.kept; why = elim r.why [ inl x ↦ inl x | inr x ↦ inr (room_lacks n st e (bound_of st.top) refl full x) ] }

pub stopped_for_room : (n : ℕ) (st : State) (e : Error) (new : State) → (Has st.top.left n → ⊥) → RefusesSize n st e new
    → Stops false (NoRoom n st) st e new
stopped_for_room n st e new full r =
    record { kept = r.kept; why = elim r.why [ inl x ↦ inl (inr x) | inr x ↦ inr (record { less = full; why = x }) ] }

-- the limit leaves no byte
pub short_by_one : (st : State) (e : Error) (new : State) → st.top.left ≡ Some 0 → RefusesSize 1 st e new → FallsShort 1 st e new
short_by_one st e new left r =
    short_of_room 1 st e new (λ h. let x : Has (Some 0) 1 = subst (λ o. Has o 1) left h in omega (arith, x)) r

-- too few bytes stood behind those that the container has room for
pub short_of_missed : (n k : ℕ) (st : State) (m : State) (e : Error) (new : State) → k ≡ n → Has st.top.left n → m ≡ lowered n st
    → Misses false k m e new → FallsShort n st e new
short_of_missed n k st m e new same room is r = record {
  kept = answered_later (ap (λ (x : State). x.failed) is) r.kept;
  why = elim r.why [
    | inl x ↦ inl (source_failed e new x)
    | inr (x, y) ↦ inr (missed_lacks n st e room x (subst (λ (z : State). length z.rest < n) is (omega (arith, same, y))))
  ];
}

pub took_pulled : (n : ℕ) (st : State) (m : State) (s : List ℕ) (new : State) → length s ≡ n → Has st.top.left n → m ≡ lowered n st
    → Pulls m s new → Takes st s new
took_pulled n st m s new l room is p =
    let room_ : Has st.top.left (length s) = subst (Has st.top.left) (sym l) room in
    let is_ : m ≡ lowered (length s) st = is ∙ ap (λ k. lowered k st) (sym l) in
    let q : Pulls (lowered (length s) st) s new = subst (λ z. Pulls z s new) is_ p in
    record { room = room_; rest = q.rest; moved = q.moved }

pub one_byte : (s : List ℕ) → length s ≡ 1 → s ≡ get_or s 0 0 ∷ []
one_byte [] h = absurd (omega arith)
one_byte (x ∷ []) h = refl
one_byte (x ∷ y ∷ r) h = absurd (omega arith)

pub has_less : (o : Option ℕ) (m n : ℕ) → m ≤ n → Has o n → Has o m
has_less None m n h k = tt
has_less (Some l) m n h k = omega arith

-- bytes that stand there can be taken
pub not_lacking : (n : ℕ) (st : State) (e : Error) (s x : List ℕ) → Lacks n st e → n ≤ length s
    → Has st.top.left (length s) → st.rest ≡ s ++ x → ⊥
not_lacking n st e s x (cut_open h fits short is) few room r = omega (arith, ap length r, length-append s x)
not_lacking n st e s x (past_limit h full is) few room r = full (has_less st.top.left n (length s) few room)
not_lacking n st e s x (cut_inside {l} h why short is) few room r =
    let fits : length s ≤ l = subst (λ o. Has o (length s)) (bound_left st.top l h) room in
    elim why [ inl y ↦ omega arith | inr y ↦ omega (arith, ap length r, length-append s x) ]
not_lacking n st e s x (too_long {l} h less there is) few room r =
    let fits : length s ≤ l = subst (λ o. Has o (length s)) (bound_left st.top l h) room in omega arith

-- a value begins, by its first byte or by a shared constructor
abbrev pub began : ℕ → State → State
began c m = record m { top = record m.top { items = lower m.top.items 1 }; quota = lower m.quota (counted_in m.top.shared c) }

pub begun_own : (st : State) (c : ℕ) (m : State) → st.error ≡ None → Has st.top.items 1 → st.top.shared ≡ None → Takes st (c ∷ []) m
    → Has m.quota (counted_in m.top.shared c) → ReadsCode st c (began c m)
begun_own st c m going item none t few = record {
  going = going;
  item = item;
  own = c ∷ [];
  first = subst (λ o. IsFirst o c (c ∷ [])) (sym none) refl;
  room = t.room;
  rest = t.rest;
  few = subst (λ (x : State). Has x.quota (counted_in x.top.shared c)) t.moved few;
  moved = ap (began c) t.moved;
}

first_shared : (o : Option (List Descriptor × ℕ)) (c : ℕ) → IsFirstShared o c → IsFirst o c []
first_shared None c h = absurd h
first_shared (Some ([], k)) c h = (refl, h)
first_shared (Some (d ∷ ds, k)) c h = (refl, h)

pub has_none : (o : Option ℕ) → Has o 0
has_none None = tt
has_none (Some l) = omega arith

pub lower_none : (o : Option ℕ) → lower o 0 ≡ o
lower_none None = refl
lower_none (Some l) = ap Some (omega arith)

past_none : (c : ℕ) (st : State) → began c st ≡ after_value 0 (counted_in st.top.shared c) st
past_none c st =
    let a : st.ahead ≡ st.ahead - 0 = omega arith in
    ap (λ x. record (began c st) { ahead = x }) a
    ∙ ap (λ x. record (began c st) { ahead = st.ahead - 0; top = record st.top { items = lower st.top.items 1; left = x } })
    (sym (lower_none st.top.left))

pub begun_shared : (st : State) (c : ℕ) → st.error ≡ None → Has st.top.items 1 → IsFirstShared st.top.shared c → Has st.quota (counted_in st.top.shared c)
    → ReadsCode st c (began c st)
begun_shared st c going item h few = record {
  going = going;
  item = item;
  own = [];
  first = first_shared st.top.shared c h;
  room = has_none st.top.left;
  rest = refl;
  few = few;
  moved = past_none c st;
}

pub has_item : (o : Option ℕ) → (o ≡ Some 0 → ⊥) → Has o 1
has_item None h = tt
has_item (Some zero) h = absurd (h refl)
has_item (Some (suc n)) h = omega arith

pub not_begun_done : (st : State) (c : ℕ) (b : State) → st.top.items ≡ Some 0 → ReadsCode st c b → ⊥
not_begun_done st c b e h = let x : 1 ≤ 0 = subst (λ o. Has o 1) e h.item in omega arith

pub not_begun_lacking : (st : State) (e : Error) (c : ℕ) (b : State) → st.top.shared ≡ None → Lacks 1 st e → ReadsCode st c b → ⊥
not_begun_lacking st e c b none l h =
    let own : h.own ≡ c ∷ [] = subst (λ o. IsFirst o c h.own) none h.first in
    not_lacking 1 st e h.own (drop (length h.own) st.rest) l (omega (arith, ap length own)) h.room h.rest

-- one value begins by one code
pub first_own : (o : Option (List Descriptor × ℕ)) (c c' : ℕ) (own own' x y : List ℕ) → IsFirst o c own → IsFirst o c' own'
    → own ++ x ≡ own' ++ y → (c ≡ c') × (own ≡ own')
first_own None c c' own own' x y f f' e =
    let z : c ≡ c' = ap (λ l. get_or l 0 0) (ap (λ l. l ++ x) (sym f) ∙ e ∙ ap (λ l. l ++ y) f') in
    (z, f ∙ ap (λ n. n ∷ []) z ∙ sym f')
first_own (Some ([], k)) c c' own own' x y (a, f) (b, f') e = (f ∙ sym f', a ∙ sym b)
first_own (Some (d ∷ ds, k)) c c' own own' x y (a, f) (b, f') e = (f ∙ sym f', a ∙ sym b)

pub not_begun_counted : (st : State) (c d : ℕ) (a b : State) → ReadsCode (uncounted st) c a → (Has st.quota (counted_in st.top.shared c) → ⊥)
    → ReadsCode st d b → ⊥
not_begun_counted st c d a b g full h =
    let s = first_own st.top.shared c d g.own h.own (drop (length g.own) st.rest) (drop (length h.own) st.rest) g.first h.first
    (sym g.rest ∙ h.rest) in
    full (subst (λ k. Has st.quota (counted_in st.top.shared k)) (sym s.0) h.few)

-- one value more than may begin
pub begin_full : (st : State) (c : ℕ) (m : State) (e : Error) (new : State) → ReadsCode (uncounted st) c m
    → (Has st.quota (counted_in st.top.shared c) → ⊥) → e ≡ Limit → Answers st e new → RefusesRead false ReadsCode BeginFault st e new
begin_full st c m e new g full is kept = record {
  kept = kept;
  again = λ d x. let going = g.going in absurd (cc);
  named = λ going. inr (one_too_many g full is);
  none = inr (λ v b h. not_begun_counted st c v m b g full h);
}

-- the code was taken, and counts
pub full_own : (st : State) (c : ℕ) (m : State) (e : Error) (new : State) → st.error ≡ None → Has st.top.items 1 → st.top.shared ≡ None
    → Takes st (c ∷ []) m → (Has m.quota (counted_in m.top.shared c) → ⊥) → e ≡ Limit → new ≡ refused_at Limit new.source.fault m
    → RefusesRead false ReadsCode BeginFault st e new
full_own st c m e new going item none t full is kept =
    let u : Takes (uncounted st) (c ∷ []) (record m { quota = None }) = record {
      room = t.room;
      rest = t.rest;
      moved = ap (λ (x : State). record x { quota = None }) t.moved;
    } in
    begin_full st c _ e new (begun_own (uncounted st) c _ going item none u tt)
    (subst (λ (x : State). Has x.quota (counted_in x.top.shared c) → ⊥) t.moved full) is (answered_took t (answered m new e Limit kept is))

-- it is shared, and counts
pub full_shared : (st : State) (c : ℕ) (e : Error) (new : State) → st.error ≡ None → Has st.top.items 1 → IsFirstShared st.top.shared c
    → (Has st.quota (counted_in st.top.shared c) → ⊥) → e ≡ Limit → new ≡ refused_at Limit new.source.fault st → RefusesRead false ReadsCode BeginFault st e new
full_shared st c e new going item h full is kept =
    begin_full st c _ e new (begun_shared (uncounted st) c going item h tt) full is (answered st new e Limit kept is)

-- a call was refused behind two others
pub refused_third : {takes : Bool} (st a m : State) (e : Error) (new : State) → Began st a → GoesOn a m → Fails false m e new
    → Refused takes st e new
refused_third st a m e new (going, none, same) (kept, on) (error, failed, memory, read, limit) = (
  λ d x. absurd (cc),
  λ g. (
    error,
    elim failed [ inl h ↦ inl (h ∙ on ∙ same) | inr h ↦ inr h ],
    λ h. (let no : false ≡ true = memory h in absurd (cc)),
    read,
    limit,
  ),
)

-- a call behind another was refused
pub refused_second : {takes : Bool} (st a : State) (e : Error) (new : State) → Began st a → Fails takes a e new → Refused takes st e new
refused_second st a e new (going, none, same) (error, failed, memory, read, limit) = (
  λ d x. absurd (cc),
  λ g. (error, elim failed [ inl h ↦ inl (h ∙ same) | inr h ↦ inr h ], memory, read, limit),
)

-- a call behind two others
pub tried_third : {A : Type 0} (takes : Bool) (st a m : State) (r : Result A Error) (new : State) → Began st a → GoesOn a m
    → Goes false m r new → Tries takes st r new
tried_third takes st a m (Ok v) new (going, none, same) (kept, on) (keeps, goes) = (going, keeps ∙ kept ∙ none, goes ∙ on ∙ same)
tried_third takes st a m (Err e) new began on fails = refused_third st a m e new began on fails

-- its first byte can't be taken
pub begin_short : (st : State) (e : Error) (new : State) → st.error ≡ None → Has st.top.items 1 → st.top.shared ≡ None
    → FallsShort 1 st e new → RefusesRead false ReadsCode BeginFault st e new
begin_short st e new going item none r = record {
  kept = r.kept;
  again = λ d x. absurd (cc);
  named = λ g. elim r.why [ inl x ↦ inl (inr x) | inr x ↦ inr (no_code item none x) ];
  none = elim r.why [ inl x ↦ inl (inr x) | inr x ↦ inr (λ v b h. not_begun_lacking st e v b none x h) ];
}

-- why a call stopped
pub stopped_short : {takes : Bool} (n : ℕ) (st : State) (e : Error) (new : State) → FallsShort n st e new
    → Stops takes (Lacks n st) st e new
stopped_short n st e new s = record { kept = s.kept; why = elim s.why [ inl x ↦ inl (inr x) | inr x ↦ inr x ] }

pub stopped_missed : {takes : Bool} (n : ℕ) (st m : State) (e : Error) (new : State) → Has st.top.left n
    → m ≡ record st { top = record st.top { left = lower st.top.left n } } → Misses takes n m e new → Stops takes (Lacks n st) st e new
stopped_missed n st m e new room is s = record {
  kept = answered_later (ap (λ (x : State). x.failed) is) s.kept;
  why = elim s.why [
    | inl x ↦ inl x
    | inr (x, y) ↦ inr (missed_lacks n st e room x (subst (λ (z : State). length z.rest < n) is y))
  ];
}

pub stopped_as : {takes : Bool} (P Q : Error → Type 0) (st : State) (e : Error) (new : State) → ((d : Error) → P d → Q d)
    → Stops takes P st e new → Stops takes Q st e new
stopped_as P Q st e new f s = record { kept = s.kept; why = elim s.why [ inl x ↦ inl x | inr x ↦ inr (f e x) ] }

-- after bytes that were taken
pub stopped_later : {takes : Bool} (P Q : Error → Type 0) (st m : State) (s : List ℕ) (e : Error) (new : State) → Takes st s m
    → ((d : Error) → P d → Q d) → Stops takes P m e new → Stops takes Q st e new
stopped_later P Q st m s e new t f r = record { kept = answered_took t r.kept; why = elim r.why [ inl x ↦ inl x | inr x ↦ inr (f e x) ] }
