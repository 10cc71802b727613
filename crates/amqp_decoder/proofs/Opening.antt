-- How a container is begun: a code, a size, a count, and room for as many bytes.
use Rattle.std.proofs.Common.{◌≡◌, ◌≤◌, ◌<◌, ℕ, ◌+◌, ◌^◌, ◌%◌, ◌⊎◌, inl, inr, Bool, true, false, IsTrue, cond, eqb, None, Result, Ok, Err}
use Rattle.std.proofs.Common.{IfOk, IfErr, List, [], ◌∷◌, ◌++◌, length, drop, refl, sym, ap, ap₂, ◌∙◌, subst, arith, append_assoc}
use Rattle.std.proofs.Common.{drop-drop, length-append}
use Rattle.std.proofs.lemmas.Bool.{eqb-true, eq-eqb}
use Rattle.std.specs.Int.{bytes_high_first}
use Rattle.amqp_model.specs.Term.{Container, list, map, array}
use Rattle.amqp_model.specs.Constructors.{Format, fixed, variable, compound, unknown, format, constructors, look_up}
use Rattle.amqp_model.proofs.Bytes.{field, length-bytes}
use Rattle.amqp_wire.specs.declared.error.Error.{Error}
use Rattle.amqp_wire.specs.declared.error.Error.TheVariants.{OddCount}
use Rattle.amqp_wire.specs.Codes.{refusal_of}
use Rattle.amqp_decoder.specs.State.{State, depth_error, Has, lower, after_data, in_container}
use Rattle.amqp_decoder.specs.Steps.{Answers, IsExcused, Takes, Lacks, FallsShort, RefusesSize, Stops}
use Rattle.amqp_decoder.specs.Reading.{RefusesRead, AnswersRead, ReadsCode, BeginFault}
use Rattle.amqp_decoder.specs.Containers.{place_of, is_list, IsCount, Counts, IsPossible, ReadsHeader, HeaderFault, no_size, impossible}
use Rattle.amqp_decoder.specs.Containers.{no_count, no_content, Unopened, Enters, EnterFault, no_header, odd_count, no_room, too_deep}
use Rattle.amqp_decoder.specs.Containers.{Opens, OpenFault, not_begun, wrong_code, no_data}
use Rattle.amqp_decoder.proofs.Steps.{answered_begun, answered_took, not_lacking}
use Rattle.amqp_lookahead.proofs.Looks.{front_is}
use Rattle.amqp_lookahead.proofs.KindsOfCodes.{OneOf}
use Rattle.amqp_decoder.proofs.ReadPrimitives.{has_add, has_rest, lower-lower, minus-minus, after_code, begun_same, fault_not_begun}
use Rattle.amqp_decoder.proofs.ReadPrimitives.{took_none}

pub after_data-after_data : (m n : ℕ) (st : State) → after_data n (after_data m st) ≡ after_data (m + n) st
after_data-after_data m n st = rw (minus-minus st.ahead m n, drop-drop n m st.rest, lower-lower st.top.left m n) refl

-- bytes were taken, and then others
pub took_both : (st m m' : State) (a b : List ℕ) → Takes st a m → Takes m b m' → Takes st (a ++ b) m'
took_both st m m' a b t u =
    let v : Takes (after_data (length a) st) b m' = subst (λ z. Takes z b m') t.moved u in
    record {
      room = rw length-append (has_add st.top.left (length a) (length b) t.room v.room);
      rest = front_is (a ++ b) st.rest (drop (length b) (drop (length a) st.rest)) (length (a ++ b)) refl
          (after_code a b st.rest t.rest v.rest);
      moved = v.moved ∙ after_data-after_data (length a) (length b) st ∙ ap (λ n. after_data n st) (sym (length-append a b));
    }

-- a number stood in front of what was taken
size_same : (w n n' : ℕ) (s x : List ℕ) (st m m' : State) → n < 256 ^ w → n' < 256 ^ w → Takes st (bytes_high_first w n ++ s) m
    → Takes st (bytes_high_first w n' ++ x) m'
    → (n ≡ n') × (s ++ drop (length (bytes_high_first w n ++ s)) st.rest ≡ x ++ drop (length (bytes_high_first w n' ++ x)) st.rest)
size_same w n n' s x st m m' h h' t u =
    field w n n' _ _ h h' (sym (append_assoc (bytes_high_first w n) s _) ∙ sym t.rest ∙ u.rest ∙ append_assoc (bytes_high_first w n') x _)

content_same : (l : Bool) (w n k s n' k' s' : ℕ) → Counts l w n k s → Counts l w n' k' s' → s ≡ s' → n ≡ n' → k ≡ k'
content_same l w n k s n' k' s' (inl a) (inl b) e f = omega arith
content_same l w n k s n' k' s' (inl a) (inr (i, b, c, d)) e f = omega arith
content_same l w n k s n' k' s' (inr (i, b, c, d)) (inl a) e f = omega arith
content_same l w n k s n' k' s' (inr (i, b, c, d)) (inr (i', b', c', d')) e f = omega arith

-- one size and count stand there
pub header_same : (l : Bool) (w : ℕ) (st : State) (n k n' k' : ℕ) (m m' : State) → ReadsHeader l w st n k m → ReadsHeader l w st n' k' m'
    → (n ≡ n') × (k ≡ k') × (m ≡ m')
header_same l w st n k n' k' m m' h h' =
    let sizes = size_same w h.size h'.size (bytes_high_first w n) (bytes_high_first w n') st m m' h.fits h'.fits h.took h'.took in
    let counts = field w n n' _ _ h.few h'.few sizes.1 in (
      counts.0,
      content_same l w n k h.size n' k' h'.size h.counts h'.counts sizes.0 counts.0,
      h.took.moved ∙ ap₂ (λ (a b : ℕ). after_data (length (bytes_high_first w a ++ bytes_high_first w b)) st) sizes.0 counts.0
          ∙ sym h'.took.moved,
    )

can_count : (l : Bool) (w n k s : ℕ) → Counts l w n k s → IsPossible l w s
can_count l w n k s (inl a) = inl (omega arith)
can_count l w n k s (inr (i, b, c, d)) = inr (i, d)

-- a size alone, where a size and a count stand
header_size : (l : Bool) (w : ℕ) (st : State) (n k : ℕ) (m : State) (s : ℕ) (m' : State) (h : ReadsHeader l w st n k m) → s < 256 ^ w
    → Takes st (bytes_high_first w s) m'
    → (h.size ≡ s) × (bytes_high_first w n ++ drop (length (bytes_high_first w h.size ++ bytes_high_first w n)) st.rest
    ≡ drop (length (bytes_high_first w s)) st.rest)
header_size l w st n k m s m' h fits t =
    field w h.size s _ _ h.fits fits (sym (append_assoc (bytes_high_first w h.size) (bytes_high_first w n) _) ∙ sym h.took.rest ∙ t.rest)

count_not_lacking : (l : Bool) (w : ℕ) (st : State) (n k : ℕ) (m : State) (s : ℕ) (m' : State) (e : Error) → ReadsHeader l w st n k m
    → s < 256 ^ w → Takes st (bytes_high_first w s) m' → Lacks w m' e → ⊥
count_not_lacking l w st n k m s m' e h fits t lacks =
    let b = bytes_high_first w s in
    let next = header_size l w st n k m s m' h fits t in
    let long : length (bytes_high_first w h.size ++ bytes_high_first w n) ≡ length b + length (bytes_high_first w n) =
    length-append (bytes_high_first w h.size) (bytes_high_first w n) ∙ (omega (arith, length-bytes w h.size, length-bytes w s)) in
    let room : Has (lower st.top.left (length b)) (length (bytes_high_first w n)) =
    has_rest st.top.left (length b) (length (bytes_high_first w n)) (subst (Has st.top.left) long h.took.room) in
    not_lacking w (after_data (length b) st) e (bytes_high_first w n) _ (subst (λ (z : State). Lacks w z e) t.moved lacks)
    (omega (arith, length-bytes w n)) room (sym next.1)

below_power : (w n : ℕ) → w ≡ 0 → n < 256 ^ w → n < 1
below_power w n e h = subst (λ x. n < 256 ^ x) e h

no_items : (l : Bool) (w n k s n' : ℕ) → Counts l w n k s → s ≡ 0 → n ≡ n' → 0 < n' → n' < 256 ^ w → ⊥
no_items l w n k s n' (inl a) e f some few = let z : w ≡ 0 = omega arith in let h = below_power w n' z few in omega arith
no_items l w n k s n' (inr (i, b, c, d)) e f some few = omega arith

pub header_not_faulty : (l : Bool) (w : ℕ) (st : State) (n k : ℕ) (m : State) (e : Error) → HeaderFault l w st e
    → ReadsHeader l w st n k m → ⊥
header_not_faulty l w st n k m e (no_size lacks) h =
    let head = bytes_high_first w h.size ++ bytes_high_first w n in
    not_lacking w st e head _ lacks (omega (arith, length-append (bytes_high_first w h.size) (bytes_high_first w n), length-bytes w h.size))
    h.took.room h.took.rest
header_not_faulty l w st n k m e (impossible {size} {m = m'} fits t never size_error) h =
    never (subst (IsPossible l w) (header_size l w st n k m size m' h fits t).0 (can_count l w n k h.size h.counts))
header_not_faulty l w st n k m e (no_count {size} {m = m'} fits t ok lacks) h = count_not_lacking l w st n k m size m' e h fits t lacks
header_not_faulty l w st n k m e (no_content {n = n'} {m = m'} some few t size_error) h =
    let zero_fits : 0 < 256 ^ w = omega (arith, h.fits) in
    let sizes = size_same w h.size 0 (bytes_high_first w n) (bytes_high_first w n') st m m' h.fits zero_fits h.took t in
    let counts = field w n n' _ _ h.few few sizes.1 in
    no_items l w n k h.size n' h.counts sizes.0 counts.0 some few

entered_not_faulty : (kind : Container) (w : ℕ) (st : State) (n : ℕ) (st' : State) (e : Error) → EnterFault kind w st e
    → Enters kind w st n st' → ⊥
entered_not_faulty kind w st n st' e (no_header f) d = header_not_faulty (is_list kind) w st n d.content d.mid e f d.header
entered_not_faulty kind w st n st' e (odd_count {n = n'} {content = k'} {m = m'} h odd is) d =
    let s = header_same (is_list kind) w st n d.content n' k' d.mid m' d.header h in odd (subst (IsCount kind) s.0 d.count)
entered_not_faulty kind w st n st' e (no_room {n = n'} {content = k'} {m = m'} h c full) d =
    let s = header_same (is_list kind) w st n d.content n' k' d.mid m' d.header h in
    full.less (subst (Has m'.top.left) s.1 (subst (λ (z : State). Has z.top.left d.content) s.2 d.room))
entered_not_faulty kind w st n st' e (too_deep h c room deep is) d = let few = d.few in omega (arith, deep, few)

width_of : Format → ℕ
width_of (fixed w f) = 0
width_of (variable w f) = 0
width_of (compound k w) = w
width_of unknown = 0

pub one_width : (F : Format) (k : Container) (w w' : ℕ) → F ≡ compound k w → F ≡ compound k w' → w ≡ w'
unfolding width_of
one_width F k w w' e f = ap width_of (sym e ∙ f)

pub opens_not_faulty : (kind : Container) (st : State) (n : ℕ) (st' : State) (e : Error) → OpenFault kind st e → Opens kind st n st' → ⊥
opens_not_faulty kind st n st' e (not_begun f) o = fault_not_begun st e o.code o.mid f o.begun
opens_not_faulty kind st n st' e (wrong_code {c} {m} g never is) o =
    let s = begun_same st c o.code m o.mid g o.begun in never o.width (ap format s.0 ∙ o.announced)
opens_not_faulty kind st n st' e (no_data {c} {width = w} {m} g f fault) o =
    let s = begun_same st c o.code m o.mid g o.begun in
    let w_same : w ≡ o.width = one_width (format o.code) kind w o.width (ap format (sym s.0) ∙ f) o.announced in
    entered_not_faulty kind o.width o.mid n st' e
    (subst (λ z. EnterFault kind o.width z e) s.1 (subst (λ z. EnterFault kind z m e) w_same fault)) o.data_

-- no such container is opened
open_refused : (kind : Container) (st : State) (e : Error) (new : State) → st.error ≡ None → Answers st e new
    → IsExcused false e new ⊎ OpenFault kind st e → RefusesRead false (Opens kind) (OpenFault kind) st e new
open_refused kind st e new going kept why = record {
  kept = kept;
  again = λ d x. absurd (cc);
  named = λ g. why;
  none = elim why [ inl x ↦ inl x | inr x ↦ inr (λ n b o. opens_not_faulty kind st n b e x o) ];
}

pub open_unbegun : (kind : Container) (st : State) (e : Error) (new : State) → RefusesRead false ReadsCode BeginFault st e new
    → RefusesRead false (Opens kind) (OpenFault kind) st e new
open_unbegun kind st e new r = record {
  kept = r.kept;
  again = r.again;
  named = λ g. elim (r.named g) [ inl x ↦ inl x | inr x ↦ inr (not_begun x) ];
  none = elim r.none [ inl x ↦ inl x | inr f ↦ inr (λ n b o. f o.code o.mid o.begun) ];
}

pub open_other : (kind : Container) (st : State) (c : ℕ) (m : State) (e : Error) (new : State) → ReadsCode st c m
    → ((w : ℕ) → format c ≡ compound kind w → ⊥) → e ≡ refusal_of c → Answers m e new
    → RefusesRead false (Opens kind) (OpenFault kind) st e new
open_other kind st c m e new g never is kept = open_refused kind st e new g.going (answered_begun g kept) (inr (wrong_code g never is))

pub reads_open : (kind : Container) (c w : ℕ) (st m new : State) (r : Result ℕ Error) → ReadsCode st c m → format c ≡ compound kind w
    → IfOk r (λ n. Enters kind w m n new) → IfErr r (λ e. Stops false (EnterFault kind w m) m e new)
    → AnswersRead false (Opens kind) (OpenFault kind) st r new
reads_open kind c w st m new (Ok n) g f d h = record { code = c; width = w; mid = m; begun = g; announced = f; data_ = d }
reads_open kind c w st m new (Err e) g f d h =
    open_refused kind st e new g.going (answered_begun g h.kept) (elim h.why [ inl x ↦ inl x | inr x ↦ inr (no_data g f x) ])

-- the codes of a kind of container
abbrev tag : Container → ℕ
tag list = 1
tag map = 2
tag array = 3

abbrev tag_of : Format → ℕ
tag_of (fixed w f) = 0
tag_of (variable w f) = 0
tag_of (compound k w) = tag k
tag_of unknown = 0

abbrev tagged : ℕ → List (ℕ × Format) → List ℕ
tagged t [] = []
tagged t (row ∷ rows) = cond (eqb (tag_of row.1) t) (row.0 ∷ tagged t rows) (tagged t rows)

more_tagged : (c x : ℕ) (b : Bool) (xs : List ℕ) → OneOf c xs → OneOf c (cond b (x ∷ xs) xs)
more_tagged c x true xs h = inr h
more_tagged c x false xs h = h

tagged_at : (c t : ℕ) (row : ℕ × Format) (rows : List (ℕ × Format)) (b : Bool) → eqb c row.0 ≡ b
    → (tag_of (look_up c rows) ≡ t → OneOf c (tagged t rows))
    → tag_of (cond b row.1 (look_up c rows)) ≡ t → OneOf c (cond (eqb (tag_of row.1) t) (row.0 ∷ tagged t rows) (tagged t rows))
tagged_at c t row rows true s f e =
    subst (λ b. OneOf c (cond b (row.0 ∷ tagged t rows) (tagged t rows))) (sym (eq-eqb (tag_of row.1) t e)) (inl (eqb-true c row.0 s))
tagged_at c t row rows false s f e = more_tagged c row.0 (eqb (tag_of row.1) t) (tagged t rows) (f e)

tagged_in : (c t : ℕ) (rows : List (ℕ × Format)) → 0 < t → tag_of (look_up c rows) ≡ t → OneOf c (tagged t rows)
tagged_in c t [] some e = absurd (omega arith)
tagged_in c t (row ∷ rows) some e = tagged_at c t row rows (eqb c row.0) refl (tagged_in c t rows some) e

tag_at : ℕ → ℕ
tag_at c = tag_of (format c)

tag_codes : (c t : ℕ) → 0 < t → tag_at c ≡ t → OneOf c (tagged t constructors)
unfolding tag_at
tag_codes c t some e = tagged_in c t constructors some e

tag_is : (c : ℕ) (k : Container) (w : ℕ) → format c ≡ compound k w → tag_at c ≡ tag k
unfolding tag_at
tag_is c k w e = ap tag_of e

list_codes : tagged 1 constructors ≡ 0x45 ∷ 0xc0 ∷ 0xd0 ∷ []
list_codes = refl

map_codes : tagged 2 constructors ≡ 0xc1 ∷ 0xd1 ∷ []
map_codes = refl

pub not_list : (c : ℕ) → (c ≡ 0x45 → ⊥) → (c ≡ 0xc0 → ⊥) → (c ≡ 0xd0 → ⊥) → (w : ℕ) → format c ≡ compound list w → ⊥
not_list c f g h w e =
    elim (subst (OneOf c) list_codes (tag_codes c 1 (omega arith) (tag_is c list w e))) [
      | inl x ↦ f x
      | inr y ↦ elim y [ inl x ↦ g x | inr z ↦ elim z [ inl x ↦ h x | inr x ↦ absurd x ] ]
    ]

pub not_map : (c : ℕ) → (c ≡ 0xc1 → ⊥) → (c ≡ 0xd1 → ⊥) → (w : ℕ) → format c ≡ compound map w → ⊥
not_map c f g w e =
    elim (subst (OneOf c) map_codes (tag_codes c 2 (omega arith) (tag_is c map w e))) [
      | inl x ↦ f x
      | inr y ↦ elim y [ inl x ↦ g x | inr x ↦ absurd x ]
    ]

-- what a header's steps find
pub no_header_size : (l : Bool) (w : ℕ) (st : State) (e : Error) (new : State) → FallsShort w st e new
    → Stops false (HeaderFault l w st) st e new
no_header_size l w st e new s = record { kept = s.kept; why = elim s.why [ inl x ↦ inl (inr x) | inr x ↦ inr (no_size x) ] }

pub header_impossible : (l : Bool) (w s : ℕ) (b : Bool) (st m : State) (e : Error) (new : State) → b ≡ false → (IsPossible l w s → IsTrue b)
    → s < 256 ^ w → Takes st (bytes_high_first w s) m → RefusesSize s m e new → Stops false (HeaderFault l w st) st e new
header_impossible l w s b st m e new is never fits t r = record {
  kept = answered_took t r.kept;
  why = elim r.why [ inl x ↦ inl (inr x) | inr x ↦ inr (impossible fits t (λ p. let h : IsTrue b = never p in absurd (cc)) x) ];
}

pub possible_at : (l : Bool) (w v s : ℕ) (b : Bool) → b ≡ true → (IsTrue b → IsPossible l w s) → w ≡ v → IsPossible l v s
possible_at l w v s b is f e = subst (λ x. IsPossible l x s) e (f is)

-- a size below that of a count is 0
pub possible_none : (l : Bool) (w s : ℕ) → IsPossible l w s → s < w → (l ≡ true) × (s ≡ 0)
possible_none l w s (inl x) less = absurd (omega arith)
possible_none l w s (inr x) less = x

pub no_header_count : (l : Bool) (w s : ℕ) (st m : State) (e : Error) (new : State) → s < 256 ^ w → Takes st (bytes_high_first w s) m
    → IsPossible l w s → FallsShort w m e new → Stops false (HeaderFault l w st) st e new
no_header_count l w s st m e new fits t ok r =
    record { kept = answered_took t r.kept; why = elim r.why [ inl x ↦ inl (inr x) | inr x ↦ inr (no_count fits t ok x) ] }

pub no_header_content : (l : Bool) (w s n : ℕ) (st m m' : State) (e : Error) (new : State) → s ≡ 0 → 0 < n → n < 256 ^ w
    → Takes st (bytes_high_first w s) m → Takes m (bytes_high_first w n) m' → RefusesSize 0 m' e new
    → Stops false (HeaderFault l w st) st e new
no_header_content l w s n st m m' e new none some few t u r = record {
  kept = answered_took t (answered_took u r.kept);
  why = elim r.why [
    | inl x ↦ inl (inr x)
    | inr x ↦ inr (no_content some few
        (subst (λ z. Takes st (bytes_high_first w z ++ bytes_high_first w n) m') none
        (took_both st m m' (bytes_high_first w s) (bytes_high_first w n) t u)) x)
  ];
}

pub header_of_none : (l : Bool) (w s n : ℕ) (st m m' : State) → s < 256 ^ w → n < 256 ^ w → l ≡ true → s ≡ 0 → n ≡ 0
    → Takes st (bytes_high_first w s) m → Takes m (bytes_high_first w n) m' → ReadsHeader l w st 0 0 m'
header_of_none l w s n st m m' fits few is none empty t u =
    subst (λ z. ReadsHeader l w st z 0 m') empty
    (record {
      size = s;
      fits = fits;
      few = few;
      took = took_both st m m' (bytes_high_first w s) (bytes_high_first w n) t u;
      counts = inr (is, empty, refl, none);
    })

-- a list without a header
pub bare_header : (st : State) → ReadsHeader true 0 st 0 0 st
bare_header st = record { size = 0; fits = omega arith; few = omega arith; took = took_none st; counts = inl (omega arith) }

-- why what a header announces isn't entered
pub enter_unheaded : (kind : Container) (w : ℕ) (st : State) (e : Error) (new : State)
    → Stops false (HeaderFault (is_list kind) w st) st e new → Stops false (EnterFault kind w st) st e new
enter_unheaded kind w st e new s = record { kept = s.kept; why = elim s.why [ inl x ↦ inl x | inr x ↦ inr (no_header x) ] }

unopened_fault : (kind : Container) (w n k : ℕ) (st m : State) (e : Error) → ReadsHeader (is_list kind) w st n k m → IsCount kind n
    → Unopened k m e → EnterFault kind w st e
unopened_fault kind w n k st m e h c (inl x) = no_room h c x
unopened_fault kind w n k st m e h c (inr (room, deep, d)) =
    too_deep h c room (subst (λ (z : State). z.nesting ≤ length z.saved) h.took.moved deep)
    (subst (λ (z : State). e ≡ depth_error z.nesting) h.took.moved d)

pub enter_unopened : (kind : Container) (w n k : ℕ) (st m : State) (e : Error) (new : State) → ReadsHeader (is_list kind) w st n k m
    → IsCount kind n → Stops false (Unopened k m) m e new → Stops false (EnterFault kind w st) st e new
enter_unopened kind w n k st m e new h c s =
    record { kept = answered_took h.took s.kept; why = elim s.why [ inl x ↦ inl x | inr x ↦ inr (unopened_fault kind w n k st m e h c x) ] }

pub enter_odd : (w n k : ℕ) (st m : State) (e : Error) (new : State) → ReadsHeader false w st n k m → n % 2 ≡ 1 → e ≡ OddCount
    → Answers m e new → Stops false (EnterFault map w st) st e new
enter_odd w n k st m e new h odd is kept =
    record { kept = answered_took h.took kept; why = inr (odd_count h (λ (x : n % 2 ≡ 0). omega (arith, odd, x)) is) }

-- a list without a header is entered
pub bare_reads : (c : ℕ) (st m new : State) (r : Result ℕ Error) → ReadsCode st c m → format c ≡ compound list 0
    → IfOk r (λ n. (n ≡ 0) × Has m.top.left 0 × (length m.saved < m.nesting) × (new ≡ in_container (place_of list) 0 0 m))
    → IfErr r (λ e. Stops false (Unopened 0 m) m e new) → AnswersRead false (Opens list) (OpenFault list) st r new
bare_reads c st m new (Ok n) g f (is, room, few, entered) h =
    subst (λ z. Opens list st z new) (sym is)
    (record {
      code = c;
      width = 0;
      mid = m;
      begun = g;
      announced = f;
      data_ = record { content = 0; mid = m; header = bare_header m; count = tt; room = room; few = few; entered = entered };
    })
bare_reads c st m new (Err e) g f h s =
    reads_open list c 0 st m new (Err e) g f tt (enter_unopened list 0 0 0 m m e new (bare_header m) tt s)

array_codes : tagged 3 constructors ≡ 0xe0 ∷ 0xf0 ∷ []
array_codes = refl

pub not_array : (c : ℕ) → (c ≡ 0xe0 → ⊥) → (c ≡ 0xf0 → ⊥) → (w : ℕ) → format c ≡ compound array w → ⊥
not_array c f g w e =
    elim (subst (OneOf c) array_codes (tag_codes c 3 (omega arith) (tag_is c array w e))) [
      | inl x ↦ f x
      | inr y ↦ elim y [ inl x ↦ g x | inr x ↦ absurd x ]
    ]

entered_same : (kind : Container) (w : ℕ) (st : State) (n n' : ℕ) (a b : State) → Enters kind w st n a
    → Enters kind w st n' b → (n ≡ n') × (a ≡ b)
entered_same kind w st n n' a b d d' =
    let s = header_same (is_list kind) w st n d.content n' d'.content d.mid d'.mid d.header d'.header in (
      s.0,
      d.entered ∙ ap (λ k. in_container (place_of kind) k d.content d.mid) s.0 ∙ ap (λ k. in_container (place_of kind) n' k d.mid) s.1
          ∙ ap (in_container (place_of kind) n' d'.content) s.2 ∙ sym d'.entered,
    )

-- a container is opened in one way
pub opens_same : (kind : Container) (st : State) (n n' : ℕ) (a b : State) → Opens kind st n a → Opens kind st n' b → (n ≡ n') × (a ≡ b)
opens_same kind st n n' a b o p =
    let s = begun_same st o.code p.code o.mid p.mid o.begun p.begun in
    let w : o.width ≡ p.width = one_width (format p.code) kind o.width p.width (ap format (sym s.0) ∙ o.announced) p.announced in
    entered_same kind p.width p.mid n n' a b
    (subst (λ z. Enters kind p.width z n a) s.1 (subst (λ k. Enters kind k o.mid n a) w o.data_)) p.data_
