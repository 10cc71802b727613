-- What is read from a reader is what is read from its bytes.
use Rattle.std.proofs.Common.{◌≡◌, ◌⊎◌, inl, inr, ℕ, ◌+◌, ◌-◌, ◌%◌, ◌^◌, ◌<◌, ◌≤◌, min, Bool, true, false, List, length, drop, Result, Ok, Err, IfOk, IfErr, MatchResult}
use Rattle.std.proofs.Common.{None, refl, sym, ap, ◌∙◌, subst, arith}
use Rattle.std.proofs.lemmas.List.{length-drop}
use Rattle.amqp_wire.specs.declared.error.Error.{Error}
use Rattle.amqp_wire.specs.declared.error.Error.TheVariants.{Memory, Limit}
use Rattle.amqp_wire.specs.declared.limits.Limits.{Limits}
use Rattle.amqp_decoder.specs.State.{Source, Course, State, is_free, fresh_source}
use Rattle.amqp_decoder.specs.OtherSource.{elsewhere}
use Rattle.amqp_decoder.specs.Steps.{unsized, IsExcused, IsReadError, Refused, Tries}
use Rattle.amqp_decoder.specs.Places.{Located, RefusesAt, AnswersAt, IsPlaced}
use Rattle.amqp_codec.specs.Reading.{Reading, apart, start_within, IsGreatest, BeginsWithin, IsUnreadableWithin, BeginsWith, IsUnreadable, HasFaultAt, IsFaultyAt}
use Rattle.amqp_codec.specs.laws.Reading.{is_read, read_one, begins_greatest, greatest_begins, unreadable_greatest}

module _ {T : Type 0} (limits : Limits) (r : Reading T) (input : List ℕ) (source : Source) (failed : Bool) where
  abbrev begin : State
  begin = elsewhere source failed (start_within limits input)

  -- the source that a slice of the same bytes is
  abbrev plain : Source
  plain = fresh_source 0 input

  read_here : (v : T) (b : State) → r.reads begin v b → BeginsWithin limits r input v (length input - length b.rest)
  read_here v b h = is_read limits r input v (elsewhere plain false b) (length input - length b.rest) (r.reads_elsewhere plain false begin v b h) refl

  behind_here : r.looks_on ≡ false → (v : T) (b : State) → r.reads begin v b → (w : T) (n : ℕ) → BeginsWithin limits r input w n
      → drop b.ahead b.rest ≡ drop n input
  behind_here own v b h w n k =
      let t = r.taken begin v b h in
      let ahead : b.ahead ≡ 0 = t.ahead own ∙ omega arith in
      let n_is : t.count ≡ n =
      omega (
        arith,
        (read_one limits r input v w (length input - length b.rest) n (read_here v b h) k).1,
        ap length t.rest,
        length-drop t.count input,
        t.within,
      ) in
      ap (λ i. drop i b.rest) ahead ∙ (t.rest ∙ ap (λ i. drop i input) n_is)

  refused_here : (e : Error) (b : State) → RefusesAt r.takes_memory r.reads r.fault begin e b → ((r.takes_memory ≡ true) × (e ≡ Memory))
      ⊎ ((IsReadError e × (b.failed.broken ≡ true)) ⊎ IsUnreadableWithin limits r input e)
  refused_here e b h = go (h.named refl) h.none
    where
      go : IsExcused r.takes_memory e b ⊎ IsPlaced (r.fault begin) begin e b → IsExcused r.takes_memory e b ⊎ ((v : T) (st : State) → r.reads begin v st → ⊥)
          → ((r.takes_memory ≡ true) × (e ≡ Memory)) ⊎ ((IsReadError e × (b.failed.broken ≡ true)) ⊎ IsUnreadableWithin limits r input e)
      go (inl (inl x)) n = inl x
      go (inl (inr x)) n = inr (inl x)
      go (inr f) (inl (inl x)) = inl x
      go (inr f) (inl (inr x)) = inr (inl x)
      go (inr (left, f, p)) (inr n) =
          let there : Located = record { error = e; left = left } in
          inr (inr (record {
            left = left;
            fault = r.fault_elsewhere plain false begin there f;
            none = λ v m k. n v (elsewhere source failed k.after) (r.reads_elsewhere source failed (start_within limits input) v k.after k.read);
            unspelled = λ one i. r.misspelled one limits input there i (r.fault_elsewhere plain false begin there f);
          }))

  -- where it was refused is where the fault stands
  faulty_here : (e : Error) (b : State) → source.size ≡ length input % 2 ^ 64 → RefusesAt r.takes_memory r.reads r.fault begin e b
      → ((r.takes_memory ≡ true) × (e ≡ Memory)) ⊎ ((IsReadError e × (b.failed.broken ≡ true)) ⊎ HasFaultAt limits r input e b.source.fault)
  faulty_here e b whole h = elim (h.named refl) [
    | inl x ↦ elim x [ inl m ↦ inl m | inr f ↦ inr (inl f) ]
    | inr (left, f, p) ↦ inr (inr (left, r.fault_elsewhere plain false begin (record { error = e; left = left }) f, p ∙ whole))
  ]

  pub found : (res : Result T Error) (b : State) → AnswersAt r.takes_memory r.reads r.fault begin res b
      → IfOk res (λ v. (n : ℕ) × BeginsWithin limits r input v n)
  found (Ok v) b h = (length input - length b.rest, read_here v b h)
  found (Err e) b h = tt

  pub one : (res : Result T Error) (b : State) → AnswersAt r.takes_memory r.reads r.fault begin res b
      → IfOk res (λ v. (w : T) (m : ℕ) → BeginsWithin limits r input w m → r.same v w)
  one (Ok v) b h = λ w m k. (read_one limits r input v w (length input - length b.rest) m (read_here v b h) k).0
  one (Err e) b h = tt

  pub behind : (res : Result T Error) (b : State) → AnswersAt r.takes_memory r.reads r.fault begin res b → r.looks_on ≡ false
      → (left : List ℕ) → left ≡ drop b.ahead b.rest → IfOk res (λ v. (w : T) (n : ℕ) → BeginsWithin limits r input w n → left ≡ drop n input)
  behind (Ok v) b h own left e = λ w n k. e ∙ behind_here own v b h w n k
  behind (Err x) b h own left e = tt

  pub refused : (res : Result T Error) (b : State) → AnswersAt r.takes_memory r.reads r.fault begin res b → (broken : Bool)
      → broken ≡ b.failed.broken → IfErr res (λ e. ((r.takes_memory ≡ true) × (e ≡ Memory))
      ⊎ ((IsReadError e × (broken ≡ true)) ⊎ IsUnreadableWithin limits r input e))
  refused (Ok v) b h broken e = tt
  refused (Err x) b h broken e = go (refused_here x b h)
    where
      go : ((r.takes_memory ≡ true) × (x ≡ Memory)) ⊎ ((IsReadError x × (b.failed.broken ≡ true)) ⊎ IsUnreadableWithin limits r input x)
          → ((r.takes_memory ≡ true) × (x ≡ Memory)) ⊎ ((IsReadError x × (broken ≡ true)) ⊎ IsUnreadableWithin limits r input x)
      go (inl m) = inl m
      go (inr (inl (i, f))) = inr (inl (i, e ∙ f))
      go (inr (inr u)) = inr (inr u)

  pub placed : (res : Result T Error) (b : State) → source.size ≡ length input % 2 ^ 64
      → AnswersAt r.takes_memory r.reads r.fault begin res b → (broken : Bool) → broken ≡ b.failed.broken → (place : ℕ)
      → place ≡ b.source.fault → IfErr res (λ e. ((r.takes_memory ≡ true) × (e ≡ Memory))
      ⊎ ((IsReadError e × (broken ≡ true)) ⊎ HasFaultAt limits r input e place))
  placed (Ok v) b whole h broken e place there = tt
  placed (Err x) b whole h broken e place there = elim (faulty_here x b whole h) [
    | inl m ↦ inl m
    | inr y ↦ elim y [
      | inl f ↦ inr (inl (f.0, e ∙ f.1))
      | inr f ↦ inr (inr (subst (HasFaultAt limits r input x) (sym there) f))
    ]
  ]

-- Whatever the source tells: where it begins to fail, that is never hidden behind another error,
pub failing : {T : Type 0} (takes : Bool) (st : State) (res : Result T Error) (b : State) → st.error ≡ None → Tries takes st res b
    → (broken before : Bool) → broken ≡ b.failed.broken → before ≡ st.failed.broken
    → MatchResult res (λ _. broken ≡ before) (λ e. (broken ≡ before) ⊎ IsReadError e)
failing takes st (Ok v) b going h broken before e f = e ∙ ap (λ (x : Course). x.broken) h.2 ∙ sym f
failing takes st (Err x) b going h broken before e f = elim (h.1 going).1 [ inl s ↦ inl (e ∙ ap (λ (x : Course). x.broken) s ∙ sym f) | inr i ↦ inr i ]

-- its error comes only where it has failed,
pub failed : {T : Type 0} (takes : Bool) (st : State) (res : Result T Error) (b : State) → st.error ≡ None → Tries takes st res b
    → (broken : Bool) → broken ≡ b.failed.broken → IfErr res (λ e. IsReadError e → broken ≡ true)
failed takes st (Ok v) b going h broken e = tt
failed takes st (Err x) b going h broken e = λ i. e ∙ (h.1 going).3 i

-- and want of memory only where the type takes some.
pub memory : {T : Type 0} (takes : Bool) (st : State) (res : Result T Error) (b : State) → st.error ≡ None → Tries takes st res b
    → IfErr res (λ e. e ≡ Memory → takes ≡ true)
memory takes st (Ok v) b going h = tt
memory takes st (Err x) b going h = (h.1 going).2

-- A limit's error comes only where the caller has set one.
pub limited_refused : (takes : Bool) (limits : Limits) (st : State) (e : Error) (b : State) → st.error ≡ None
    → st.failed.free ≡ is_free limits.nesting limits.bytes limits.items → Refused takes st e b → e ≡ Limit → IsGreatest limits → ⊥
limited_refused takes limits st e b going free h is (nesting, bytes, items) =
    let f = h.1 going in
    let kept : unsized b.failed ≡ unsized st.failed = elim f.1 [ inl s ↦ s | inr i ↦ absurd (subst IsReadError is i) ] in
    let bounded : is_free limits.nesting limits.bytes limits.items ≡ false =
    sym free ∙ ap (λ (x : Course). x.free) (sym kept) ∙ f.4 is in
    let free : is_free limits.nesting limits.bytes limits.items ≡ true = rw (nesting, bytes, items) refl in absurd (cc)

pub limited : {T : Type 0} (takes : Bool) (limits : Limits) (st : State) (res : Result T Error) (b : State) → st.error ≡ None
    → st.failed.free ≡ is_free limits.nesting limits.bytes limits.items → Tries takes st res b
    → IfErr res (λ e. e ≡ Limit → IsGreatest limits → ⊥)
limited takes limits st (Ok v) b going free h = tt
limited takes limits st (Err e) b going free h = limited_refused takes limits st e b going free h

-- a source that never fails is no reason
pub refused_whole : {T : Type 0} (limits : Limits) (r : Reading T) (input : List ℕ) (e : Error) (b : State) → b.failed.broken ≡ false
    → RefusesAt r.takes_memory r.reads r.fault (start_within limits input) e b
    → ((r.takes_memory ≡ true) × (e ≡ Memory)) ⊎ IsUnreadableWithin limits r input e
refused_whole limits r input e b sound h = elim (refused_here limits r input (fresh_source 0 input) false e b h) [
  | inl m ↦ inl m
  | inr x ↦ elim x [ inl (i, f) ↦ absurd (cc) | inr u ↦ inr u ]
]

-- in a slice the place is within it
placed_within : (fault left len : ℕ) → fault < 2 ^ 64 → len < 2 ^ 64 → (fault + left) % 2 ^ 64 ≡ len % 2 ^ 64 → left ≤ len
    → fault + left ≡ len
placed_within fault left len small short h few = omega (arith, small, short, h, few)

pub placed_whole : {T : Type 0} (limits : Limits) (r : Reading T) (input : List ℕ) (e : Error) (b : State) → b.failed.broken ≡ false
    → RefusesAt r.takes_memory r.reads r.fault (start_within limits input) e b → (at : ℕ)
    → at ≡ min b.source.fault (length input) → b.source.fault < 2 ^ 64 → length input < 2 ^ 64
    → ((r.takes_memory ≡ true) × (e ≡ Memory)) ⊎ IsFaultyAt limits r input e at
placed_whole limits r input e b sound h at is small short =
    elim (faulty_here limits r input (fresh_source 0 input) false e b refl h) [
      | inl m ↦ inl m
      | inr x ↦ elim x [
        | inl f ↦ let broken = f.1 in absurd (cc)
        | inr f ↦ inr (
          f.0,
          f.1,
          (let few = r.within (start_within limits input) (record { error = e; left = f.0 }) f.1 in
              let z = placed_within b.source.fault f.0 (length input) small short f.2 few in omega (arith, z, is)),
        )
      ]
    ]

-- no limit is passed where none is set
pub never_limited : {A : Type 0} (limits : Limits) → IsGreatest limits → (res : Result A Error)
    → IfErr res (λ e. e ≡ Limit → IsGreatest limits → ⊥) → IfErr res (λ e. e ≡ Limit → ⊥)
never_limited limits g (Ok v) h = tt
never_limited limits g (Err e) h = λ is. h is g

-- What is read within the greatest limits is what is read without any.
module _ {T : Type 0} (limits : Limits) (g : IsGreatest limits) (r : Reading T) (input : List ℕ) where
  pub counted_greatest : (res : Result (T × ℕ) Error) → IfOk res (λ v. BeginsWithin limits r input v.0 v.1)
      → IfOk res (λ v. BeginsWith r input v.0 v.1)
  counted_greatest (Ok v) h = begins_greatest limits r input v.0 v.1 g h
  counted_greatest (Err e) h = tt

  pub one_greatest : (res : Result T Error) → IfOk res (λ v. (w : T) (m : ℕ) → BeginsWithin limits r input w m → r.same v w)
      → IfOk res (λ v. (w : T) (m : ℕ) → BeginsWith r input w m → r.same v w)
  one_greatest (Ok v) h = λ w m k. h w m (greatest_begins limits r input w m g k)
  one_greatest (Err e) h = tt

  pub behind_greatest : (left : List ℕ) (res : Result T Error)
      → IfOk res (λ v. (w : T) (n : ℕ) → BeginsWithin limits r input w n → left ≡ drop n input)
      → IfOk res (λ v. (w : T) (n : ℕ) → BeginsWith r input w n → left ≡ drop n input)
  behind_greatest left (Ok v) h = λ w n k. h w n (greatest_begins limits r input w n g k)
  behind_greatest left (Err e) h = tt

  pub refused_greatest : {A : Type 0} (broken : Bool) (res : Result A Error) → IfErr res (λ e. ((r.takes_memory ≡ true) × (e ≡ Memory))
      ⊎ ((IsReadError e × (broken ≡ true)) ⊎ IsUnreadableWithin limits r input e))
      → IfErr res (λ e. ((r.takes_memory ≡ true) × (e ≡ Memory)) ⊎ ((IsReadError e × (broken ≡ true)) ⊎ IsUnreadable r input e))
  refused_greatest broken (Ok v) h = tt
  refused_greatest broken (Err e) (inl m) = inl m
  refused_greatest broken (Err e) (inr (inl f)) = inr (inl f)
  refused_greatest broken (Err e) (inr (inr u)) = inr (inr (unreadable_greatest limits r input e g u))

  pub refused_whole_greatest : {A : Type 0} (res : Result A Error)
      → IfErr res (λ e. ((r.takes_memory ≡ true) × (e ≡ Memory)) ⊎ IsUnreadableWithin limits r input e)
      → IfErr res (λ e. ((r.takes_memory ≡ true) × (e ≡ Memory)) ⊎ IsUnreadable r input e)
  refused_whole_greatest (Ok v) h = tt
  refused_whole_greatest (Err e) (inl m) = inl m
  refused_whole_greatest (Err e) (inr u) = inr (unreadable_greatest limits r input e g u)

-- One term alone is read as it is where what stands behind it may be looked at.
pub record ReadAmong {T : Type 0} (r : Reading T) (st : State) (res : Result T Error) (b : State) : Type 0 where
  pub after : State
  pub read : AnswersAt r.takes_memory r.reads r.fault st res after
  pub source : after.source ≡ b.source
  pub rest : after.rest ≡ b.rest
  pub ahead : after.ahead ≡ b.ahead
  pub broken : after.failed.broken ≡ b.failed.broken

abbrev among : Course → Course
among f = record f { alone = false }

module _ {T : Type 0} (r : Reading T) (st : State) (shared : st.failed.alone ≡ false) where
  read_apart : r.one_term ≡ true → (res : Result T Error) (b : State) → AnswersAt r.takes_memory r.reads r.fault (apart true st) res b
      → AnswersAt r.takes_memory r.reads r.fault st res (apart false b)
  read_apart one (Ok v) b h =
      subst (λ (x : Bool). r.reads (apart x st) v (apart false b)) (sym shared) (r.reads_alone one false (apart true st) v b h)
  read_apart one (Err e) b h = record {
    kept = record { error = h.kept.error; source = elim h.kept.source [ inl x ↦ inl (ap among x ∙ whole) | inr x ↦ inr x ] };
    again = λ d x. (let k = h.again d x in (k.0, ap (apart false) k.1 ∙ ap (λ f. record st { failed = f }) whole));
    named = λ g. elim (h.named g) [
      | inl x ↦ inl x
      | inr (left, f, p) ↦ inr (
        left,
        subst (λ (x : Bool). r.fault (apart x st) (record { error = e; left = left })) (sym shared)
            (r.fault_alone one false (apart true st) (record { error = e; left = left }) f),
        p,
      )
    ];
    none = elim h.none [ inl x ↦ inl x | inr x ↦ inr (λ v c k. x v (apart true c) (r.reads_alone one true st v c k)) ];
  }
    where
      whole : among st.failed ≡ st.failed
      whole = ap (λ x. record st.failed { alone = x }) (sym shared)

  read_by : (one : Bool) → r.one_term ≡ one → (res : Result T Error) (b : State)
      → AnswersAt r.takes_memory r.reads r.fault (apart one st) res b → ReadAmong r st res b
  read_by true is res b h = record { after = apart false b; read = read_apart is res b h; source = refl; rest = refl; ahead = refl; broken = refl }
  read_by false is res b h = record {
    after = b;
    read = subst (λ x. AnswersAt r.takes_memory r.reads r.fault (apart x st) res b) (sym shared) h;
    source = refl;
    rest = refl;
    ahead = refl;
    broken = refl;
  }

  pub read_among : (res : Result T Error) (b : State) → AnswersAt r.takes_memory r.reads r.fault (apart r.one_term st) res b
      → ReadAmong r st res b
  read_among res b h = read_by r.one_term refl res b h

-- It is still read alone where its source hasn't failed.
pub still_alone : {T : Type 0} (takes : Bool) (st : State) (res : Result T Error) (b : State) → st.error ≡ None → Tries takes st res b
    → b.failed.broken ≡ false → b.failed.alone ≡ st.failed.alone
still_alone takes st (Ok v) b going h sound = ap (λ (x : Course). x.alone) h.2
still_alone takes st (Err e) b going h sound =
    elim (h.1 going).1 [
      | inl s ↦ ap (λ (x : Course). x.alone) s
      | inr i ↦ (let broken = (h.1 going).3 i in absurd (cc))
    ]
