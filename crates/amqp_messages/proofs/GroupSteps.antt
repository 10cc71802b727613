-- A group of a message is read into what was read before.
use Rattle.std.proofs.Common.{◌≡◌, inl, inr, ℕ, zero, suc, Bool, true, false, ◌||◌, eqb, [], ◌∷◌, Result, Ok, Err, refl, sym, ap, ap₂, subst}
use Rattle.std.proofs.lemmas.Bool.{eqb-true}
use Rattle.amqp_wire.specs.declared.error.Error.{Error}
use Rattle.amqp_decoder.specs.State.{State}
use Rattle.amqp_codec.specs.laws.Refusal.{refused_first}
use Rattle.amqp_messages.specs.Kinds.{Kinds, none, kind, is_in, Fields}
use Rattle.amqp_messages.specs.KindsReading.{has, AreApart, Readings, Reads}
use Rattle.amqp_messages.specs.laws.KindsReading.{not_in, reads_has}
use Rattle.amqp_bodies.specs.Bodies.{Made}
use Rattle.amqp_messages.specs.MessageKinds.{seven}
use Rattle.amqp_messages.specs.Messages.{readings_of, seven_apart}
use Rattle.amqp_messages.specs.GroupAnswers.{AnswersPut, AnswersGroup}

-- The kind at this place has the code, and none before it.
abbrev pub IsPlace : Kinds → ℕ → ℕ → Type 0
IsPlace none n c = ⊥
IsPlace (kind T codes ks) zero c = is_in codes c ≡ true
IsPlace (kind T codes ks) (suc n) c = (is_in codes c ≡ false) × IsPlace ks n c

-- What was read stands at this place, and all else is as it was.
abbrev pub PutsAt : (ks : Kinds) → Readings ks → ℕ → Fields ks → Fields ks → State → Result (Unit {0}) Error → State → Type 0
PutsAt none rs n m x st answer b = ⊥
PutsAt (kind T codes ks) rs zero m x st answer b = AnswersPut rs.0 x.0 st answer b × (x.1 ≡ m.1)
PutsAt (kind T codes ks) rs (suc n) m x st answer b = (x.0 ≡ m.0) × PutsAt ks rs.1 n m.1 x.1 st answer b

-- a group of the first kind, and one of a later kind
first_answer : (T : Type 0) (codes : _) (ks : Kinds) (rs : Readings (kind T codes ks)) → AreApart (kind T codes ks) → (c : ℕ)
    (m x : Fields (kind T codes ks)) (st : State) (answer : Result (Unit {0}) Error) (b : State) → is_in codes c ≡ true
    → AnswersPut rs.0 x.0 st answer b → x.1 ≡ m.1 → AnswersGroup (kind T codes ks) rs c m x st answer b
first_answer T codes ks rs apart c m x st (Ok done) b i (v, r, e) same = (inl v, (i, r), ap₂ (λ y z. (y, z)) e same)
first_answer T codes ks rs apart c m x st (Err e) b i h same =
    refused_first _ _ _ _ _ _ _ (λ _. refl) (λ f k. inl (i, k)) nothing_else h
  where
    nothing_else : ((v : T) (b : State) → rs.0.reads st v b → ⊥) → (g : _) (b : State) → Reads (kind T codes ks) rs c st g b → ⊥
    nothing_else n (inl v) b k = n v b k.1
    nothing_else n (inr g) b k = not_in ks codes c apart.0 i (reads_has ks rs.1 c st g b k)

later_answer : (T : Type 0) (codes : _) (ks : Kinds) (rs : Readings (kind T codes ks)) (c : ℕ)
    (m x : Fields (kind T codes ks)) (st : State) (answer : Result (Unit {0}) Error) (b : State) → is_in codes c ≡ false
    → x.0 ≡ m.0 → AnswersGroup ks rs.1 c m.1 x.1 st answer b → AnswersGroup (kind T codes ks) rs c m x st answer b
later_answer T codes ks rs c m x st (Ok done) b i same (g, r, e) = (inr g, r, ap₂ (λ y z. (y, z)) same e)
later_answer T codes ks rs c m x st (Err e) b i same h = refused_first _ _ _ _ _ _ _ (λ _. refl) (λ f k. inr k) nothing_else h
  where
    nothing_else : ((g : _) (b : State) → Reads ks rs.1 c st g b → ⊥) → (g : _) (b : State) → Reads (kind T codes ks) rs c st g b → ⊥
    nothing_else n (inl v) b k = (let is = k.0 in absurd (cc))
    nothing_else n (inr g) b k = n g b k

pub put_answer : (ks : Kinds) (rs : Readings ks) → AreApart ks → (n c : ℕ) (m x : Fields ks) (st : State) (answer : Result (Unit {0}) Error)
    (b : State) → IsPlace ks n c → PutsAt ks rs n m x st answer b → AnswersGroup ks rs c m x st answer b
put_answer none rs apart n c m x st answer b i h = absurd i
put_answer (kind T codes ks) rs apart zero c m x st answer b i h = first_answer T codes ks rs apart c m x st answer b i h.0 h.1
put_answer (kind T codes ks) rs apart (suc n) c m x st answer b i h =
    later_answer T codes ks rs c m x st answer b i.0 h.0 (put_answer ks rs.1 apart.1 n c m.1 x.1 st answer b i.1 h.1)

-- by the code of the section that came next
pub put_code : {S B : Type 0} (made : Made S B) (n d : ℕ) → IsPlace (seven S) n d → (c : ℕ) → c ≡ d → (m x : Fields (seven S)) (st : State)
    (answer : Result (Unit {0}) Error) (b : State) → PutsAt (seven S) (readings_of made.group) n m x st answer b
    → AnswersGroup (seven S) (readings_of made.group) c m x st answer b
put_code {S} made n d i c e m x st answer b h =
    put_answer (seven S) (readings_of made.group) (seven_apart S) n c m x st answer b (subst (IsPlace (seven S) n) (sym e) i) h

not_true : (b : Bool) → (b ≡ true → ⊥) → b ≡ false
not_true true h = absurd (h refl)
not_true false h = refl

beside : (x y : Bool) → x ≡ false → x || y ≡ true → y ≡ true
beside true y e h = absurd (cc)
beside false y e h = h

or_last : (x y : Bool) → y ≡ false → x || y ≡ true → x ≡ true
or_last true y e h = refl
or_last false y e h = absurd (cc)

-- a kind with one code
other_code : (c d : ℕ) → (c ≡ d → ⊥) → is_in (d ∷ []) c ≡ false
other_code c d not = ap (λ t. t || false) (not_true (eqb c d) (λ e. not (eqb-true c d e)))

-- a section of no other kind is a body's
at_body : (c : ℕ) → has (seven (Unit {0})) c ≡ true → (c ≡ 0x70 → ⊥) → (c ≡ 0x71 → ⊥) → (c ≡ 0x72 → ⊥) → (c ≡ 0x73 → ⊥)
    → (c ≡ 0x74 → ⊥) → (c ≡ 0x78 → ⊥) → IsPlace (seven (Unit {0})) 5 c
at_body c among h d m p a f =
    let header = other_code c 0x70 h in
    let delivery = other_code c 0x71 d in
    let message = other_code c 0x72 m in
    let properties = other_code c 0x73 p in
    let application = other_code c 0x74 a in
    let left = beside _ _ application (beside _ _ properties (beside _ _ message (beside _ _ delivery (beside _ _ header among)))) in
    (header, (delivery, (message, (properties, (application, or_last _ _ (ap (λ t. t || false) (other_code c 0x78 f)) left)))))

pub body_answer : {S B : Type 0} (made : Made S B) (c : ℕ) → has (seven (Unit {0})) c ≡ true → (c ≡ 0x70 → ⊥) → (c ≡ 0x71 → ⊥)
    → (c ≡ 0x72 → ⊥) → (c ≡ 0x73 → ⊥) → (c ≡ 0x74 → ⊥) → (c ≡ 0x78 → ⊥) → (m x : Fields (seven S)) (st : State)
    (answer : Result (Unit {0}) Error) (b : State) → PutsAt (seven S) (readings_of made.group) 5 m x st answer b
    → AnswersGroup (seven S) (readings_of made.group) c m x st answer b
body_answer {S} made c among h d n p a f m x st answer b puts =
    put_answer (seven S) (readings_of made.group) (seven_apart S) 5 c m x st answer b (at_body c among h d n p a f) puts
