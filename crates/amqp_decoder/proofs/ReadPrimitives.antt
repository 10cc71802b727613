-- A primitive that stands next is a code that begins a value, and its data.
use Rattle.std.proofs.Common.{◌≡◌, ◌<◌, ℕ, zero, suc, ◌+◌, ◌-◌, ◌^◌, ◌⊎◌, inl, inr, Bool, false, Option, Some, None, Result, Ok, Err, IfOk}
use Rattle.std.proofs.Common.{IfErr, unwrap_or, List, [], ◌∷◌, ◌++◌, length, drop, refl, sym, ap, ◌∙◌, subst, arith, append_assoc}
use Rattle.std.proofs.Common.{drop-drop, length-append}
use Rattle.std.proofs.lemmas.List.{drop_at}
use Rattle.std.specs.Int.{bytes_high_first}
use Rattle.std.specs.Char.{IsScalar}
use Rattle.amqp_model.specs.Term.{Primitive, char, Descriptor, leaf}
use Rattle.amqp_model.specs.Constructors.{Format, fixed, variable, compound, unknown, format, boolean_byte}
use Rattle.amqp_model.specs.Spelling.{PrimitiveData, IsValid, Constructor, IsDataOf, IsSpelling}
use Rattle.amqp_model.proofs.Bytes.{front, field, length-bytes}
use Rattle.amqp_model.proofs.Forms.{primitive_known}
use Rattle.amqp_wire.specs.declared.error.Error.{Error}
use Rattle.amqp_wire.specs.Codes.{refusal_of}
use Rattle.amqp_decoder.specs.State.{State, Has, lower, after_data, after_value, counted_in, weight_at}
use Rattle.amqp_decoder.specs.Steps.{Answers, SourceFailed, IsExcused, Takes, Lacks, FallsShort}
use Rattle.amqp_decoder.specs.Reading.{RefusesRead, AnswersRead, IsFirst, ReadsCode, BeginFault, missing, no_code, one_too_many}
use Rattle.amqp_lookahead.specs.Kinds.{kind_of, kind_at, kind_under, codes_of}
use Rattle.amqp_decoder.specs.Primitives.{standing, SpellsAs, ReadsValue, Means, ReadsPrimitive, LacksData, IsWhole, bad, PrimitiveFault}
use Rattle.amqp_decoder.specs.Primitives.{not_begun, wrong_code, no_data, bad_data, FixedFault, unbegun, other_code, too_few, ReadsFixed}
use Rattle.amqp_decoder.specs.Primitives.{AnswersFault, LacksDataOf}
use Rattle.amqp_decoder.proofs.Counts.{code_counts}
use Rattle.amqp_decoder.proofs.Steps.{answered_begun, answered_took, has_none, lower_none, not_lacking, not_begun_done, not_begun_lacking, not_begun_counted, first_own}
use Rattle.amqp_lookahead.proofs.KindsOfCodes.{kind_data, kind_is, one_code}

pub has_add : (o : Option ℕ) (m n : ℕ) → Has o m → Has (lower o m) n → Has o (m + n)
has_add None m n h k = tt
has_add (Some l) m n h k = omega arith

pub has_front : (o : Option ℕ) (m n : ℕ) → Has o (m + n) → Has o m
has_front None m n h = tt
has_front (Some l) m n h = omega arith

pub has_rest : (o : Option ℕ) (m n : ℕ) → Has o (m + n) → Has (lower o m) n
has_rest None m n h = tt
has_rest (Some l) m n h = omega arith

pub lower-lower : (o : Option ℕ) (m n : ℕ) → lower (lower o m) n ≡ lower o (m + n)
lower-lower None m n = refl
lower-lower (Some l) m n = ap Some (omega arith)

pub minus-minus : (a m n : ℕ) → a - m - n ≡ a - (m + n)
minus-minus a m n = omega arith

pub after_data-after_value : (m k n : ℕ) (st : State) → after_data n (after_value m k st) ≡ after_value (m + n) k st
after_data-after_value m k n st = rw (minus-minus st.ahead m n, drop-drop n m st.rest, lower-lower st.top.left m n) refl

-- the bytes of data follow those of the code
pub after_code : (own b r : List ℕ) → r ≡ own ++ drop (length own) r → drop (length own) r ≡ b ++ drop (length b) (drop (length own) r)
    → r ≡ (own ++ b) ++ drop (length b) (drop (length own) r)
after_code own b r e f = e ∙ ap (λ x. own ++ x) f ∙ sym (append_assoc own b (drop (length b) (drop (length own) r)))

leaf_spelled : (o : Option (List Descriptor × ℕ)) (c : ℕ) (own b : List ℕ) (p : Primitive) → IsFirst o c own → PrimitiveData (format c) p b
    → SpellsAs (standing o (own ++ b)) (leaf p)
unfolding IsSpelling
leaf_spelled None c own b p first d =
    ([], c, omega arith, (c ∷ [], b, ap (λ l. l ++ b) first, (refl, primitive_known (format c) p b d), d))
leaf_spelled (Some ([], k)) c own b p (e, f) d =
    subst (λ x. PrimitiveData (format k) p (x ++ b)) (sym e) (subst (λ x. PrimitiveData (format x) p b) f d)
leaf_spelled (Some (e ∷ ds, k)) c own b p (f, g) d = absurd (subst (λ x. PrimitiveData (format x) p b) g d)

pub leaf_value : {A : Type 0} (make : A → Primitive) (st : State) (v : A) (st' : State) → ReadsPrimitive st (make v) st'
    → ReadsValue (Means make) st v st'
leaf_value make st v st' l =
    let g = l.begun in
    let t = subst (λ m. Takes m l.data_ st') g.moved l.took in
    let own = g.own in
    let one : counted_in st.top.shared l.code ≡ 1 = code_counts st.top.shared l.code own g.first (primitive_known (format l.code) (make v) l.data_ l.spelled) in
    record {
      bytes = own ++ l.data_;
      term = leaf (make v);
      stands = record {
        going = g.going;
        item = g.item;
        room = rw length-append (has_add st.top.left (length own) (length l.data_) g.room t.room);
        after = drop (length l.data_) (drop (length own) st.rest);
        rest = after_code own l.data_ st.rest g.rest t.rest;
        spelled = leaf_spelled st.top.shared l.code own l.data_ (make v) g.first l.spelled;
        nested = omega arith;
        few = subst (Has st.quota) one g.few;
      };
      moved = t.moved ∙ after_data-after_value (length own) (counted_in st.top.shared l.code) (length l.data_) st
          ∙ ap (λ n. after_value n (counted_in st.top.shared l.code) st) (sym (length-append own l.data_))
          ∙ ap (λ k. after_value (length (own ++ l.data_)) k st) one;
      meant = refl;
    }

-- the first bytes of its own, and the data
pub record Split (o : Option (List Descriptor × ℕ)) (p : Primitive) (s : List ℕ) : Type 0 where
  pub code : ℕ
  pub own : List ℕ
  pub data_ : List ℕ
  pub whole : s ≡ own ++ data_
  pub first : IsFirst o code own
  pub spelled : PrimitiveData (format code) p data_

split_own : (p : Primitive) (ds : List Descriptor) (c : ℕ) (first second s : List ℕ) → s ≡ first ++ second → Constructor ds c first
    → IsDataOf (leaf p) ds c second → Split None p s
split_own p [] c first second s e k d = record { code = c; own = first; data_ = second; whole = e; first = k.0; spelled = d }
split_own p (f ∷ ds) c first second s e k d = absurd d

pub split_leaf : (o : Option (List Descriptor × ℕ)) (p : Primitive) (s : List ℕ) → SpellsAs (standing o s) (leaf p) → Split o p s
unfolding IsSpelling
split_leaf None p s (ds, c, few, (first, second, e, k, d)) = split_own p ds c first second s e k d
split_leaf (Some ([], k)) p s d = record { code = k; own = []; data_ = s; whole = refl; first = (refl, refl); spelled = d }
split_leaf (Some (f ∷ ds, k)) p s d = absurd d

pub value_leaf : {A : Type 0} (make : A → Primitive) (st : State) (v : A) (st' : State) → ReadsValue (Means make) st v st'
    → ReadsPrimitive st (make v) st'
value_leaf make st v st' h =
    let k = h.stands in
    let x = split_leaf st.top.shared (make v) h.bytes (subst (SpellsAs (standing st.top.shared h.bytes)) h.meant k.spelled) in
    let n : length h.bytes ≡ length x.own + length x.data_ = ap length x.whole ∙ length-append x.own x.data_ in
    let room : Has st.top.left (length x.own + length x.data_) = subst (Has st.top.left) n k.room in
    let r : st.rest ≡ x.own ++ (x.data_ ++ k.after) = k.rest ∙ ap (λ l. l ++ k.after) x.whole ∙ append_assoc x.own x.data_ k.after in
    let behind : drop (length x.own) st.rest ≡ x.data_ ++ k.after =
    ap (drop (length x.own)) r ∙ drop_at x.own (x.data_ ++ k.after) (length x.own) refl in
    let one : counted_in st.top.shared x.code ≡ 1 = code_counts st.top.shared x.code x.own x.first (primitive_known (format x.code) (make v) x.data_ x.spelled) in
    let weight_ : weight_at st h.term ≡ 1 = ap (weight_at st) h.meant in
    let same : weight_at st h.term ≡ counted_in st.top.shared x.code = weight_ ∙ sym one in
    let behind_data : drop (length x.data_) (drop (length x.own) st.rest) ≡ k.after =
    ap (drop (length x.data_)) behind ∙ drop_at x.data_ k.after (length x.data_) refl in
    record {
      code = x.code;
      mid = after_value (length x.own) (counted_in st.top.shared x.code) st;
      data_ = x.data_;
      begun = record {
        going = k.going;
        item = k.item;
        own = x.own;
        first = x.first;
        room = has_front st.top.left (length x.own) (length x.data_) room;
        rest = r ∙ ap (λ l. x.own ++ l) (sym behind);
        few = subst (Has st.quota) same k.few;
        moved = refl;
      };
      spelled = x.spelled;
      took = record {
        room = has_rest st.top.left (length x.own) (length x.data_) room;
        rest = behind ∙ ap (λ l. x.data_ ++ l) (sym behind_data);
        moved = h.moved ∙ ap (λ z. after_value z (weight_at st h.term) st) n
            ∙ ap (λ z. after_value (length x.own + length x.data_) z st) same
            ∙ sym (after_data-after_value (length x.own) (counted_in st.top.shared x.code) (length x.data_) st);
      };
    }

-- one value begins by one code
pub begun_same : (st : State) (c c' : ℕ) (m m' : State) → ReadsCode st c m → ReadsCode st c' m' → (c ≡ c') × (m ≡ m')
begun_same st c c' m m' h k =
    let s = first_own st.top.shared c c' h.own k.own (drop (length h.own) st.rest) (drop (length k.own) st.rest) h.first k.first
    (sym h.rest ∙ k.rest) in (
      s.0,
      h.moved ∙ ap (λ l. after_value (length l) (counted_in st.top.shared c) st) s.1 ∙ ap (λ n. after_value (length k.own) (counted_in st.top.shared n) st) s.0 ∙ sym k.moved,
    )

pub fault_not_begun : (st : State) (e : Error) (c : ℕ) (m : State) → BeginFault st e → ReadsCode st c m → ⊥
fault_not_begun st e c m (missing h is) k = not_begun_done st c m h k
fault_not_begun st e c m (no_code item none l) k = not_begun_lacking st e c m none l k
fault_not_begun st e c m (one_too_many {c = d} {m = n} g full is) k = not_begun_counted st d c n m g full k

-- data that stands there isn't lacking
sized_not_lacking : (w : ℕ) (m m' m1 : State) (e : Error) (b s : List ℕ) (n : ℕ) → n < 256 ^ w → length s < 256 ^ w
    → b ≡ bytes_high_first w (length s) ++ s → Takes m b m' → Takes m (bytes_high_first w n) m1 → Lacks n m1 e → ⊥
sized_not_lacking w m m' m1 e b s n fits fits' is t u l =
    let after = drop (length b) m.rest in
    let head = bytes_high_first w n in
    let whole : m.rest ≡ bytes_high_first w (length s) ++ (s ++ after) =
    t.rest ∙ ap (λ x. x ++ after) is ∙ append_assoc (bytes_high_first w (length s)) s after in
    let same = field w n (length s) (drop (length head) m.rest) (s ++ after) fits fits' (sym u.rest ∙ whole) in
    let lens : length b ≡ length head + length s =
    ap length is ∙ length-append (bytes_high_first w (length s)) s ∙ (omega (arith, length-bytes w (length s), length-bytes w n)) in
    let room : Has (lower m.top.left (length head)) (length s) =
    has_rest m.top.left (length head) (length s) (subst (Has m.top.left) lens t.room) in
    not_lacking n (after_data (length head) m) e s after (subst (λ (z : State). Lacks n z e) u.moved l) (omega (arith, same.0)) room same.1

pub data_not_lacking : (F : Format) (p : Primitive) (m m' : State) (e : Error) (b : List ℕ) → PrimitiveData F p b
    → Takes m b m' → LacksData F m e → ⊥
data_not_lacking (fixed w f) p m m' e b d t l = not_lacking w m e b (drop (length b) m.rest) l (omega (arith, d.0)) t.room t.rest
data_not_lacking (variable w f) p m m' e b (s, fits, is, v, valid) t (inl l) =
    not_lacking w m e b (drop (length b) m.rest) l
    (omega (arith, ap length is, length-append (bytes_high_first w (length s)) s, length-bytes w (length s))) t.room t.rest
data_not_lacking (variable w f) p m m' e b (s, fits, is, v, valid) t (inr (n, m1, few, u, l)) =
    sized_not_lacking w m m' m1 e b s n few fits is t u l
data_not_lacking (compound k w) p m m' e b d t l = absurd d
data_not_lacking unknown p m m' e b d t l = absurd d

pub data_whole : (F : Format) (p : Primitive) (b : List ℕ) → PrimitiveData F p b → IsWhole F b
data_whole (fixed w f) p b d = d.0
data_whole (variable w f) p b (s, fits, is, v, valid) = (s, fits, is)
data_whole (compound k w) p b d = absurd d
data_whole unknown p b d = absurd d

-- one front of the input is as long as a format announces
pub whole_same : (F : Format) (b b' x y : List ℕ) → IsWhole F b → IsWhole F b' → b ++ x ≡ b' ++ y → b ≡ b'
whole_same (fixed w f) b b' x y h h' e = front b b' x y (h ∙ sym h') e
whole_same (variable w f) b b' x y (s, fits, is) (s', fits', is') e =
    let wide : bytes_high_first w (length s) ++ (s ++ x) ≡ bytes_high_first w (length s') ++ (s' ++ y) =
    sym (ap (λ l. l ++ x) is ∙ append_assoc (bytes_high_first w (length s)) s x) ∙ e ∙ ap (λ l. l ++ y) is'
    ∙ append_assoc (bytes_high_first w (length s')) s' y in
    let sizes = field w (length s) (length s') (s ++ x) (s' ++ y) fits fits' wide in
    let same : s ≡ s' = front s s' x y sizes.0 sizes.1 in
    is ∙ ap (λ l. bytes_high_first w (length l) ++ l) same ∙ sym is'
whole_same (compound k w) b b' x y h h' e = absurd h
whole_same unknown b b' x y h h' e = absurd h

-- what a fault names rules the kind out
pub fault_not_leaf : (k : ℕ) (st : State) (e : Error) (p : Primitive) (st' : State) → kind_of p ≡ k → PrimitiveFault k st e
    → ReadsPrimitive st p st' → ⊥
fault_not_leaf k st e p st' is (not_begun f) l = fault_not_begun st e l.code l.mid f l.begun
fault_not_leaf k st e p st' is (wrong_code {c} {m} g other _) l =
    other (ap kind_at (begun_same st c l.code m l.mid g l.begun).0 ∙ kind_data l.code p l.data_ l.spelled ∙ ap Some is)
fault_not_leaf k st e p st' is (no_data {c} {m} g _ lacks) l =
    let s = begun_same st c l.code m l.mid g l.begun in
    data_not_lacking (format l.code) p l.mid st' e l.data_ l.spelled l.took
    (subst (λ z. LacksData (format l.code) z e) s.1 (subst (λ z. LacksData (format z) m e) s.0 lacks))
fault_not_leaf k st e p st' is (bad_data {c} {m} {b} {m'} g _ t h none _) l =
    let s = begun_same st c l.code m l.mid g l.begun in
    let u = subst (λ z. Takes z b m') s.1 t in
    let w = subst (λ z. IsWhole (format z) b) s.0 h in
    let same : l.data_ ≡ b =
    whole_same (format l.code) l.data_ b (drop (length l.data_) l.mid.rest) (drop (length b) l.mid.rest)
    (data_whole (format l.code) p l.data_ l.spelled) w (sym l.took.rest ∙ u.rest) in
    none p (subst (λ z. PrimitiveData (format z) p b) (sym s.0) (subst (PrimitiveData (format l.code) p) same l.spelled))

-- a failed call refuses every value of its kind
pub refused_kind : {A : Type 0} {takes : Bool} (make : A → Primitive) (k : ℕ) (st : State) (e : Error) (new : State)
    → ((v : A) → kind_of (make v) ≡ k) → st.error ≡ None → Answers st e new → IsExcused takes e new ⊎ PrimitiveFault k st e
    → RefusesRead takes (ReadsValue (Means make)) (PrimitiveFault k) st e new
refused_kind make k st e new is going kept why = record {
  kept = kept;
  again = λ d x. absurd (cc);
  named = λ g. why;
  none = elim why [ inl x ↦ inl x | inr x ↦ inr (λ v b h. fault_not_leaf k st e (make v) b (is v) x (value_leaf make st v b h)) ];
}

pub refused_first : {A : Type 0} (make : A → Primitive) (k : ℕ) (st : State) (e : Error) (new : State) → ((v : A) → kind_of (make v) ≡ k)
    → RefusesRead false ReadsCode BeginFault st e new → RefusesRead false (ReadsValue (Means make)) (PrimitiveFault k) st e new
refused_first make k st e new is r = record {
  kept = r.kept;
  again = r.again;
  named = λ g. elim (r.named g) [ inl x ↦ inl x | inr x ↦ inr (not_begun x) ];
  none = elim r.none [
    | inl x ↦ inl x
    | inr f ↦ inr (λ v b h. let l = value_leaf make st v b h in f l.code l.mid l.begun)
  ];
}

pub err_map : {A E : Type 0} (r : Result A E) (P Q : E → Type 0) → ((e : E) → P e → Q e) → IfErr r P → IfErr r Q
err_map (Ok v) P Q f h = tt
err_map (Err e) P Q f h = f e h

pub ok_map : {A E : Type 0} (r : Result A E) (P Q : A → Type 0) → ((v : A) → P v → Q v) → IfOk r P → IfOk r Q
ok_map (Ok v) P Q f h = f v h
ok_map (Err e) P Q f h = tt

-- why the data of a value of one constructor isn't read
pub fixed_unbegun : (code n : ℕ) (st : State) (e : Error) (new : State) → RefusesRead false ReadsCode BeginFault st e new
    → AnswersFault false (FixedFault code n) st e new
fixed_unbegun code n st e new r = record {
  kept = r.kept;
  again = r.again;
  named = λ g. elim (r.named g) [ inl x ↦ inl x | inr x ↦ inr (unbegun x) ];
}

pub fixed_other : (code n : ℕ) (st : State) (c : ℕ) (m : State) (e d : Error) (new : State) → ReadsCode st c m → (c ≡ code → ⊥)
    → e ≡ refusal_of c → Answers m e new → AnswersFault false (FixedFault code n) st e new
fixed_other code n st c m e d new g other is kept = record {
  kept = answered_begun g kept;
  again = λ d x. let h = g.going in absurd (cc);
  named = λ h. inr (other_code g other is);
}

pub fixed_short : (code n : ℕ) (st : State) (m : State) (e : Error) (new : State) → ReadsCode st code m → FallsShort n m e new
    → AnswersFault false (FixedFault code n) st e new
fixed_short code n st m e new g s = record {
  kept = answered_begun g s.kept;
  again = λ d x. let h = g.going in absurd (cc);
  named = λ h. elim s.why [ inl x ↦ inl (inr x) | inr x ↦ inr (too_few g x) ];
}

fixed_fault : (k code n : ℕ) (st : State) (e : Error) → kind_under (format code) ≡ Some k → codes_of k ≡ code ∷ []
    → ((m : State) → Lacks n m e → LacksData (format code) m e) → FixedFault code n st e → PrimitiveFault k st e
fixed_fault k code n st e is one lacks (unbegun f) = not_begun f
fixed_fault k code n st e is one lacks (other_code {c} g other d) = wrong_code g (λ h. other (one_code k code one c h)) d
fixed_fault k code n st e is one lacks (too_few {m} g l) = no_data g (kind_is code k is) (lacks m l)

-- a value of a kind of one constructor isn't read
pub kind_failed : {A : Type 0} {takes : Bool} (make : A → Primitive) (k : ℕ) (st : State) (e : Error) (new : State)
    → ((v : A) → kind_of (make v) ≡ k) → Answers st e new → ((d : Error) → st.error ≡ Some d → (d ≡ e) × (new ≡ st))
    → (st.error ≡ None → IsExcused takes e new ⊎ PrimitiveFault k st e)
    → RefusesRead takes (ReadsValue (Means make)) (PrimitiveFault k) st e new
kind_failed {takes = takes} make k st e new kinds kept again why = record {
  kept = kept;
  again = again;
  named = why;
  none = none st.error refl;
}
  where
    none : (o : Option Error) → st.error ≡ o → IsExcused takes e new ⊎ ((v : _) (b : State) → ReadsValue (Means make) st v b → ⊥)
    none None g =
        elim (why g) [ inl x ↦ inl x | inr x ↦ inr (λ v b h. fault_not_leaf k st e (make v) b (kinds v) x (value_leaf make st v b h)) ]
    none (Some d) g = inr (λ v b h. let i = h.stands.going in absurd (cc))

pub fixed_refused : {A : Type 0} (make : A → Primitive) (k code n : ℕ) (st : State) (e : Error) (new : State)
    → ((v : A) → kind_of (make v) ≡ k) → kind_under (format code) ≡ Some k → codes_of k ≡ code ∷ []
    → ((m : State) → Lacks n m e → LacksData (format code) m e)
    → AnswersFault false (FixedFault code n) st e new → RefusesRead false (ReadsValue (Means make)) (PrimitiveFault k) st e new
fixed_refused make k code n st e new kinds is one lacks f =
    kind_failed make k st e new kinds f.kept f.again
    (λ g. elim (f.named g) [ inl x ↦ inl x | inr x ↦ inr (fixed_fault k code n st e is one lacks x) ])

pub fixed_value : {A : Type 0} (make : A → Primitive) (code n : ℕ) (st : State) (b : List ℕ) (v : A) (new : State)
    → PrimitiveData (format code) (make v) b → ReadsFixed code n st b new → ReadsValue (Means make) st v new
fixed_value make code n st b v new d f =
    leaf_value make st v new (record { code = code; mid = f.mid; data_ = b; begun = f.begun; spelled = d; took = f.took })

-- the data itself is the value
pub fixed_reads : (make : List ℕ → Primitive) (k code n : ℕ) (st : State) (new : State) (r : Result (List ℕ) Error)
    → ((v : List ℕ) → kind_of (make v) ≡ k) → kind_under (format code) ≡ Some k → codes_of k ≡ code ∷ []
    → ((m : State) (e : Error) → Lacks n m e → LacksData (format code) m e)
    → ((b : List ℕ) → length b ≡ n → PrimitiveData (format code) (make b) b) → IfOk r (λ b. ReadsFixed code n st b new)
    → IfErr r (λ e. AnswersFault false (FixedFault code n) st e new)
    → AnswersRead false (ReadsValue (Means make)) (PrimitiveFault k) st r new
fixed_reads make k code n st new (Ok b) kinds is one lacks d f h = fixed_value make code n st b b new (d b f.width) f
fixed_reads make k code n st new (Err e) kinds is one lacks d f h = fixed_refused make k code n st e new kinds is one (λ m l. lacks m e l) h

-- a value of a kind whose data is none
pub bad_refused : {A : Type 0} (make : A → Primitive) (k code : ℕ) (st : State) (m : State) (b : List ℕ) (m' : State) (e : Error)
    (new : State) → ((v : A) → kind_of (make v) ≡ k) → kind_under (format code) ≡ Some k
    → ReadsCode st code m → Takes m b m' → IsWhole (format code) b → ((p : Primitive) → PrimitiveData (format code) p b → ⊥) → e ≡ bad k
    → Answers m' e new → RefusesRead false (ReadsValue (Means make)) (PrimitiveFault k) st e new
bad_refused make k code st m b m' e new kinds is g t h none d kept =
    refused_kind make k st e new kinds g.going (answered_begun g (answered_took t kept)) (inr (bad_data g (kind_is code k is) t h none d))

pub took_none : (m : State) → Takes m [] m
took_none m =
    let a : m.ahead ≡ m.ahead - 0 = omega arith in
    record {
      room = has_none m.top.left;
      rest = refl;
      moved = ap (λ x. record m { ahead = x }) a
          ∙ ap (λ x. record m { ahead = m.ahead - 0; top = record m.top { left = x } }) (sym (lower_none m.top.left));
    }

-- data under a code is a value
pub data_value : {A : Type 0} (make : A → Primitive) (code : ℕ) (st : State) (m : State) (b : List ℕ) (v : A) (new : State)
    → ReadsCode st code m → PrimitiveData (format code) (make v) b → Takes m b new → ReadsValue (Means make) st v new
data_value make code st m b v new g d t =
    leaf_value make st v new (record { code = code; mid = m; data_ = b; begun = g; spelled = d; took = t })

pub code_value : {A : Type 0} (make : A → Primitive) (code : ℕ) (st : State) (v : A) (new : State) → ReadsCode st code new
    → PrimitiveData (format code) (make v) [] → ReadsValue (Means make) st v new
code_value make code st v new g d = data_value make code st new [] v new g d (took_none new)

-- a code of another kind
pub other_refused : {A : Type 0} (make : A → Primitive) (k : ℕ) (st : State) (c : ℕ) (m : State) (e : Error) (new : State)
    → ((v : A) → kind_of (make v) ≡ k)
    → ReadsCode st c m → (kind_at c ≡ Some k → ⊥) → e ≡ refusal_of c → Answers m e new
    → RefusesRead false (ReadsValue (Means make)) (PrimitiveFault k) st e new
other_refused make k st c m e new kinds g other d kept =
    refused_kind make k st e new kinds g.going (answered_begun g kept) (inr (wrong_code g other d))

-- data that can't be taken
pub lacking_refused : {A : Type 0} (make : A → Primitive) (k code : ℕ) (st : State) (m : State) (e : Error) (new : State)
    → ((v : A) → kind_of (make v) ≡ k) → kind_at code ≡ Some k
    → ReadsCode st code m → Answers m e new → SourceFailed e new ⊎ LacksData (format code) m e
    → RefusesRead false (ReadsValue (Means make)) (PrimitiveFault k) st e new
lacking_refused make k code st m e new kinds is g kept why =
    refused_kind make k st e new kinds g.going (answered_begun g kept) (elim why [ inl x ↦ inl (inr x) | inr x ↦ inr (no_data g is x) ])

pub short_refused : {A : Type 0} (make : A → Primitive) (k code n : ℕ) (st : State) (m : State) (e : Error) (new : State)
    → ((v : A) → kind_of (make v) ≡ k) → kind_under (format code) ≡ Some k
    → (Lacks n m e → LacksData (format code) m e) → ReadsCode st code m → FallsShort n m e new
    → RefusesRead false (ReadsValue (Means make)) (PrimitiveFault k) st e new
short_refused make k code n st m e new kinds is lacks g s =
    lacking_refused make k code st m e new kinds (kind_is code k is) g s.kept (elim s.why [ inl x ↦ inl x | inr x ↦ inr (lacks x) ])

pub not_boolean : (n : ℕ) (p : Primitive) → (n ≡ 0 → ⊥) → (n ≡ 1 → ⊥) → boolean_byte (n ∷ []) ≡ Some p → ⊥
not_boolean zero p f g e = f refl
not_boolean (suc zero) p f g e = g refl
not_boolean (suc (suc n)) p f g e = cc

pub not_char : (n : ℕ) (p : Primitive) → (IsScalar n → ⊥) → Some (char n) ≡ Some p → IsValid p → ⊥
not_char n p f e v = f (subst IsValid (sym (ap (λ o. unwrap_or o p) e)) v)

pub short_data : (k code n : ℕ) (m : State) (e : Error) (new : State) → kind_under (format code) ≡ Some k
    → (Lacks n m e → LacksData (format code) m e) → FallsShort n m e new → LacksDataOf k code m e new
short_data k code n m e new is lacks s =
    record { kept = s.kept; kind = kind_is code k is; why = elim s.why [ inl x ↦ inl x | inr x ↦ inr (lacks x) ] }
