-- What a look at the next value's first code finds.
use Rattle.std.proofs.Common.{◌≡◌, ◌≤◌, ℕ, ◌-◌, inl, inr, false, Option, Some, None, is_some, MatchOption, List, [], ◌∷◌}
use Rattle.std.proofs.Common.{Result, Ok, Err, IfOk, IfErr, length, drop, length-append, ◌↔◌, min, max, refl, sym, ap, ◌∙◌, subst, arith}
use Rattle.amqp_model.specs.Term.{Descriptor, Term}
use Rattle.amqp_model.specs.Spelling.{Constructor, IsSpelling}
use Rattle.amqp_model.specs.Standing.{Standing}
use Rattle.amqp_wire.specs.declared.error.Error.{Error}
use Rattle.amqp_wire.specs.declared.error.Error.TheVariants.{Cut, Limit}
use Rattle.amqp_decoder.specs.State.{refused_at, State, Has, after_look, after_bytes, after_data, after_value, counted_in, weight_at, uncounted}
use Rattle.amqp_decoder.specs.Steps.{Answers, Takes, RefusesSize}
use Rattle.amqp_decoder.specs.Reading.{RefusesRead, AnswersRead, IsFirst, IsFirstShared, ReadsCode, BeginFault, PeeksCode, after_peek}
use Rattle.amqp_decoder.specs.Primitives.{standing, SpellsAs, Stands, ReadsValue}
use Rattle.amqp_decoder.proofs.Steps.{answered, answered_later, begun_own, begun_shared, begin_full, full_shared, begin_short, short_by_one, missed_lacks, has_item}

under_shared : (o : Option (List Descriptor × ℕ)) (c : ℕ) (st : State) → IsFirstShared o c → st ≡ after_peek o st
under_shared None c st h = absurd h
under_shared (Some s) c st h = refl

-- a constructor is shared
pub peeked_shared : (st : State) (c : ℕ) → st.error ≡ None → Has st.top.items 1 → IsFirstShared st.top.shared c → Has st.quota (counted_in st.top.shared c)
    → PeeksCode st c st
peeked_shared st c going item h few =
    record { after = _; begun = begun_shared st c going item h few; kept = under_shared st.top.shared c st h }

-- what a look found
pub nothing_there : (o : Option ℕ) (r : List ℕ) → o ≡ None → MatchOption o (r ≡ []) (λ b. r ≡ b ∷ drop 1 r) → r ≡ []
nothing_there None r is h = h
nothing_there (Some b) r is h = absurd (cc)

pub byte_there : (o : Option ℕ) (c : ℕ) (r : List ℕ) → o ≡ Some c → MatchOption o (r ≡ []) (λ b. r ≡ b ∷ drop 1 r) → r ≡ c ∷ drop 1 r
byte_there None c r is h = absurd (cc)
byte_there (Some b) c r is h = let e : b ≡ c = cc in subst (λ x. r ≡ x ∷ drop 1 r) e h

-- a byte stands there, and is looked at
pub peeked_own : (st : State) (c : ℕ) (new : State) → st.error ≡ None → Has st.top.items 1 → st.top.shared ≡ None → Has st.top.left 1
    → new ≡ after_look (min 1 (length st.rest)) st → st.rest ≡ c ∷ drop 1 st.rest → Has st.quota (counted_in st.top.shared c) → PeeksCode st c new
peeked_own st c new going item none room is byte few =
    let one : min 1 (length st.rest) ≡ 1 = omega (arith, ap length byte) in
    let took : Takes st (c ∷ []) (after_data 1 st) = record { room = room; rest = byte; moved = refl } in
    record {
      after = _;
      begun = begun_own st c (after_data 1 st) going item none took few;
      kept = is ∙ ap (λ n. after_look n st) one ∙ ap (λ o. after_peek o st) (sym none);
    }

pub peek_refused : (st : State) (e : Error) (new : State) → RefusesRead false ReadsCode BeginFault st e new
    → RefusesRead false PeeksCode BeginFault st e new
peek_refused st e new r = record {
  kept = r.kept;
  again = r.again;
  named = r.named;
  none = elim r.none [ inl x ↦ inl x | inr f ↦ inr (λ c b h. f c h.after h.begun) ];
}

-- the code that stands there, if a value may begin by it
abbrev pub IsCounted : State → ℕ → Result ℕ Error → State → Type 0
IsCounted seen c (Ok k) new = (k ≡ c) × Has seen.quota (counted_in seen.top.shared c) × (new ≡ seen)
IsCounted seen c (Err e) new = (Has seen.quota (counted_in seen.top.shared c) → ⊥) × (e ≡ Limit) × (new ≡ refused_at Limit new.source.fault seen)

pub is_counted : (seen : State) (c : ℕ) (r : Result ℕ Error) (new : State)
    → IfOk r (λ k. (k ≡ c) × Has seen.quota (counted_in seen.top.shared c) × (new ≡ seen))
    → IfErr r (λ e. (Has seen.quota (counted_in seen.top.shared c) → ⊥) × (e ≡ Limit) × (new ≡ refused_at Limit new.source.fault seen)) → IsCounted seen c r new
is_counted seen c (Ok k) new ok err = ok
is_counted seen c (Err e) new ok err = err

peeked_so : (st : State) (c k : ℕ) (seen new : State) → k ≡ c → new ≡ seen → PeeksCode st c seen → PeeksCode st k new
peeked_so st c k seen new same is p = subst (λ n. PeeksCode st n new) (sym same) (subst (PeeksCode st c) (sym is) p)

pub peeked_shared_if : (st : State) (c : ℕ) (r : Result ℕ Error) (new : State) → st.error ≡ None → Has st.top.items 1
    → IsFirstShared st.top.shared c → IsCounted st c r new → AnswersRead false PeeksCode BeginFault st r new
peeked_shared_if st c (Ok k) new going item h (same, few, is) = peeked_so st c k st new same is (peeked_shared st c going item h few)
peeked_shared_if st c (Err e) new going item h (full, is, kept) = peek_refused st e new (full_shared st c e new going item h full is kept)

pub peeked_own_if : (st : State) (c : ℕ) (seen : State) (r : Result ℕ Error) (new : State) → st.error ≡ None → Has st.top.items 1
    → st.top.shared ≡ None → Has st.top.left 1 → seen ≡ after_look (min 1 (length st.rest)) st → st.rest ≡ c ∷ drop 1 st.rest
    → IsCounted seen c r new → AnswersRead false PeeksCode BeginFault st r new
peeked_own_if st c seen (Ok k) new going item none room looked byte (same, few, is) =
    let may : Has st.quota (counted_in st.top.shared c) = subst (λ (x : State). Has x.quota (counted_in x.top.shared c)) looked few in
    peeked_so st c k seen new same is (peeked_own st c seen going item none room looked byte may)
peeked_own_if st c seen (Err e) new going item none room looked byte (full, is, kept) =
    let took : Takes (uncounted st) (c ∷ []) (after_data 1 (uncounted st)) = record { room = room; rest = byte; moved = refl } in
    let begun = begun_own (uncounted st) c (after_data 1 (uncounted st)) going item none took tt in
    peek_refused st e new (begin_full st c _ e new begun (subst (λ (x : State). Has x.quota (counted_in x.top.shared c) → ⊥) looked full) is
    (answered_later (ap (λ (x : State). x.failed) looked) (answered seen new e Limit kept is)))

-- no byte is left
pub peek_size : (st : State) (e : Error) (new : State) → st.error ≡ None → Has st.top.items 1 → st.top.shared ≡ None → st.top.left ≡ Some 0
    → RefusesSize 1 st e new → RefusesRead false PeeksCode BeginFault st e new
peek_size st e new going item none left r =
    peek_refused st e new (begin_short st e new going item none (short_by_one st e new left r))

-- the input ends
pub peek_cut : (st : State) (e : Error) (new : State) → st.error ≡ None → Has st.top.items 1 → st.top.shared ≡ None
    → (st.top.left ≡ Some 0 → ⊥) → st.rest ≡ [] → e ≡ Cut → Answers st e new → RefusesRead false PeeksCode BeginFault st e new
peek_cut st e new going item none left end_ is kept =
    peek_refused st e new (begin_short st e new going item none
    (record { kept = kept; why = inr (missed_lacks 1 st e (has_item st.top.left left) is (omega (arith, ap length end_))) }))

max-minus : (a n k : ℕ) → n ≤ k → max a n - k ≡ a - k
max-minus a n k h = omega (arith, h)

-- what is taken after a look is what is taken without it
pub after_bytes-after_look : (n k : ℕ) (st : State) → n ≤ k → after_bytes k (after_look n st) ≡ after_bytes k st
after_bytes-after_look n k st h = ap (λ a. record st { rest = drop k st.rest; ahead = a }) (max-minus st.ahead n k h)

pub after_data-after_look : (n k : ℕ) (st : State) → n ≤ k → after_data k (after_look n st) ≡ after_data k st
after_data-after_look n k st h = ap (λ a. record (after_data k st) { ahead = a }) (max-minus st.ahead n k h)

pub after_value-after_look : (n k m : ℕ) (st : State) → n ≤ k → after_value k m (after_look n st) ≡ after_value k m st
after_value-after_look n k m st h = ap (λ a. record (after_value k m st) { ahead = a }) (max-minus st.ahead n k h)

pub took-looked : (n : ℕ) (st after : State) (s : List ℕ) → n ≤ length s → Takes (after_look n st) s after ↔ Takes st s after
took-looked n st after s h = (
  λ t. record { room = t.room; rest = t.rest; moved = t.moved ∙ after_data-after_look n (length s) st h },
  λ t. record { room = t.room; rest = t.rest; moved = t.moved ∙ sym (after_data-after_look n (length s) st h) },
)

pub stands-looked : (n : ℕ) (st : State) (s : List ℕ) (t : Term) → Stands (after_look n st) s t ↔ Stands st s t
stands-looked n st s t = (
  λ k. record {
    going = k.going;
    item = k.item;
    room = k.room;
    after = k.after;
    rest = k.rest;
    spelled = k.spelled;
    nested = k.nested;
    few = k.few;
  },
  λ k. record {
    going = k.going;
    item = k.item;
    room = k.room;
    after = k.after;
    rest = k.rest;
    spelled = k.spelled;
    nested = k.nested;
    few = k.few;
  },
)

pub constructor_some : (ds : List Descriptor) (c : ℕ) (b : List ℕ) → Constructor ds c b → 1 ≤ length b
constructor_some [] c b h = omega (arith, ap length h.0)
constructor_some (d ∷ ds) c b (x, y, e, _, _) = omega (arith, ap length e)

enc_some : (b : List ℕ) (t : Term) → IsSpelling b t → 1 ≤ length b
unfolding IsSpelling
enc_some b t (ds, c, few, (x, y, e, h, k)) = omega (arith, ap length e, length-append x y, constructor_some ds c x h)

-- a term that shares no constructor has a byte
pub stands_some : (st : State) (s : List ℕ) (t : Term) → st.top.shared ≡ None → Stands st s t → 1 ≤ length s
stands_some st s t none k = enc_some s t (subst (λ o. SpellsAs (standing o s) t) none k.spelled)

first_some : (o : Option (List Descriptor × ℕ)) (c : ℕ) (own : List ℕ) → o ≡ None → IsFirst o c own → 1 ≤ length own
first_some o c own none h = let e : own ≡ c ∷ [] = subst (λ x. IsFirst x c own) none h in omega (arith, ap length e)

begun_after : (st after : State) (d : ℕ) (o : Option (List Descriptor × ℕ)) → st.top.shared ≡ o
    → ReadsCode (after_peek o st) d after ↔ ReadsCode st d after
begun_after st after d None e = (
  λ g. record {
    going = g.going;
    item = g.item;
    own = g.own;
    first = g.first;
    room = g.room;
    rest = g.rest;
    few = g.few;
    moved = g.moved ∙ after_value-after_look 1 (length g.own) (counted_in st.top.shared d) st (first_some st.top.shared d g.own e g.first);
  },
  λ g. record {
    going = g.going;
    item = g.item;
    own = g.own;
    first = g.first;
    room = g.room;
    rest = g.rest;
    few = g.few;
    moved = g.moved ∙ sym (after_value-after_look 1 (length g.own) (counted_in st.top.shared d) st (first_some st.top.shared d g.own e g.first));
  },
)
begun_after st after d (Some s) e = (λ g. g, λ g. g)

pub begun-peeked : (st seen after : State) (c d : ℕ) → PeeksCode st c seen → ReadsCode seen d after ↔ ReadsCode st d after
begun-peeked st seen after c d p =
    subst (λ (x : State). ReadsCode x d after ↔ ReadsCode st d after) (sym p.kept) (begun_after st after d st.top.shared refl)

value_after : {A : Type 0} (means : Standing → Term → A → Type 0) (st after : State) (v : A) (o : Option (List Descriptor × ℕ))
    → st.top.shared ≡ o → ReadsValue means (after_peek o st) v after ↔ ReadsValue means st v after
value_after means st after v None e = (
  λ x. let k = (stands-looked 1 st x.bytes x.term).0 x.stands in
      record {
        bytes = x.bytes;
        term = x.term;
        stands = k;
        moved = x.moved ∙ after_value-after_look 1 (length x.bytes) (weight_at st x.term) st (stands_some st x.bytes x.term e k);
        meant = x.meant;
      },
  λ x. record {
    bytes = x.bytes;
    term = x.term;
    stands = (stands-looked 1 st x.bytes x.term).1 x.stands;
    moved = x.moved ∙ sym (after_value-after_look 1 (length x.bytes) (weight_at st x.term) st (stands_some st x.bytes x.term e x.stands));
    meant = x.meant;
  },
)
value_after means st after v (Some s) e = (λ x. x, λ x. x)

-- a value that is read after a look is the value that is read without it
pub value-peeked : {A : Type 0} (means : Standing → Term → A → Type 0) (st seen after : State) (c : ℕ) (v : A) → PeeksCode st c seen
    → ReadsValue means seen v after ↔ ReadsValue means st v after
value-peeked means st seen after c v p =
    subst (λ (x : State). ReadsValue means x v after ↔ ReadsValue means st v after) (sym p.kept)
    (value_after means st after v st.top.shared refl)

-- no code is shared
pub no_code_shared : (o : Option ℕ) (shared : Option (List Descriptor × ℕ)) → MatchOption o (shared ≡ None) (λ c. IsFirstShared shared c)
    → is_some o ≡ false → shared ≡ None
no_code_shared None shared h e = h
no_code_shared (Some c) shared h e = absurd (cc)
