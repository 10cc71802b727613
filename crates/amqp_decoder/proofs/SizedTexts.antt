-- Texts, whose size stands before them.
use Rattle.std.proofs.Common.{◌≡◌, ◌≤◌, ◌<◌, ℕ, ◌+◌, ◌-◌, ◌^◌, ◌⊎◌, inl, inr, Bool, true, false, Result, Ok, Err, IfOk, IfErr, Some, List}
use Rattle.std.proofs.Common.{[], ◌∷◌, ◌++◌, unwrap_or, length, take, drop, refl, sym, ap, ◌∙◌, subst, arith, append_assoc, drop-drop}
use Rattle.std.proofs.lemmas.List.{take_at, length-append, length-drop}
use Rattle.std.proofs.Math.Seq.{take-add}
use Rattle.std.specs.Int.{bytes_high_first}
use Rattle.amqp_wire.specs.declared.error.Error.{Error}
use Rattle.amqp_decoder.specs.State.{State, after_bytes}
use Rattle.amqp_decoder.specs.Steps.{Answers, IsExcused, Pulls, Misses, Takes, FallsShort}
use Rattle.amqp_model.specs.Term.{Primitive}
use Rattle.amqp_model.specs.Constructors.{variable, format}
use Rattle.amqp_model.specs.Spelling.{PrimitiveData, IsValid}
use Rattle.amqp_model.proofs.Bytes.{field}
use Rattle.amqp_wire.specs.Codes.{refusal_of}
use Rattle.amqp_decoder.specs.Reading.{RefusesRead, AnswersRead, ReadsCode, BeginFault}
use Rattle.amqp_lookahead.specs.Kinds.{kind_of, kind_at, kind_under, codes_of}
use Rattle.amqp_decoder.specs.Primitives.{ReadsValue, Means, LacksData, IsWhole, bad, PrimitiveFault, not_begun, wrong_code, no_data}
use Rattle.amqp_decoder.specs.Primitives.{bad_data, AnswersFault, ReadsSize, SizedFault, ReadsSized, ReadsText, TextFault, no_text}
use Rattle.amqp_decoder.specs.Primitives.{no_text_code, narrow_short, wide_short}
use Rattle.amqp_lookahead.proofs.KindsOfCodes.{kind_is, not_two}
use Rattle.amqp_decoder.proofs.ReadPrimitives.{kind_failed, refused_kind, data_value}
use Rattle.amqp_decoder.proofs.Steps.{answered_begun, answered_later, answered_took, excused_by_source, missed_lacks}

-- one more piece
pub kept_more : (k n : ℕ) (old m new : State) (piece before items items' : List ℕ) → m ≡ after_bytes k old → k ≤ length old.rest
    → items ≡ before ++ take k old.rest → Pulls m piece new → length piece ≡ n → items' ≡ items ++ piece
    → (k + n ≤ length old.rest) × (items' ≡ before ++ take (k + n) old.rest) × (new ≡ after_bytes (k + n) old)
kept_more k n old m new piece before items items' is few held p long added =
    let q : Pulls (after_bytes k old) piece new = subst (λ z. Pulls z piece new) is p in
    let front : take n (drop k old.rest) ≡ piece = ap (take n) q.rest ∙ take_at piece (drop (length piece) (drop k old.rest)) n long in
    let ahead : old.ahead - k - n ≡ old.ahead - (k + n) = omega arith in (
      omega (arith, ap length q.rest, length-append piece (drop (length piece) (drop k old.rest)), length-drop k old.rest, long),
      added ∙ ap (λ x. x ++ piece) held ∙ append_assoc before (take k old.rest) piece
          ∙ ap (λ x. before ++ (take k old.rest ++ x)) (sym front) ∙ ap (λ x. before ++ x) (sym (take-add k n old.rest)),
      q.moved ∙ ap (λ j. after_bytes j (after_bytes k old)) long
          ∙ ap (λ x. record old { rest = x; ahead = old.ahead - k - n }) (drop-drop n k old.rest)
          ∙ ap (λ x. record old { rest = drop (k + n) old.rest; ahead = x }) ahead,
    )

-- the size can't be taken
pub sized_short : {takes : Bool} (w : ℕ) (st : State) (e : Error) (new : State) → FallsShort w st e new → SizedFault takes w st e new
sized_short w st e new s = record { kept = s.kept; why = elim s.why [ inl x ↦ inl (inr x) | inr x ↦ inr (inl x) ] }

-- what is promised without memory is promised with it
pub sized_in : (takes : Bool) (w : ℕ) (st : State) (e : Error) (new : State) → SizedFault false w st e new → SizedFault takes w st e new
sized_in takes w st e new s = record { kept = s.kept; why = elim s.why [ inl x ↦ inl (excused_by_source takes e new x) | inr x ↦ inr x ] }

-- what it announces can't be taken
pub sized_no_room : {takes : Bool} (w n : ℕ) (st m : State) (e : Error) (new : State) → n < 256 ^ w → Takes st (bytes_high_first w n) m
    → FallsShort n m e new → SizedFault takes w st e new
sized_no_room w n st m e new fits t s =
    record { kept = answered_took t s.kept; why = elim s.why [ inl x ↦ inl (inr x) | inr x ↦ inr (inr (n, m, fits, t, x)) ] }

pub sized_cut : {takes : Bool} (w n : ℕ) (st m : State) (e : Error) (new : State) → ReadsSize w st n m → Misses takes n m e new
    → SizedFault takes w st e new
sized_cut w n st m e new a s = record {
  kept = answered_took a.took (answered_later (ap (λ (x : State). x.failed) a.lowered) s.kept);
  why = elim s.why [
    | inl x ↦ inl x
    | inr (x, y) ↦
        inr (inr (
          n,
          a.mid,
          a.fits,
          a.took,
          missed_lacks n a.mid e a.room x (subst (λ (z : State). length z.rest < n) a.lowered y),
        ))
  ];
}

-- why no text is read
pub text_unbegun : (narrow wide : ℕ) (st : State) (e : Error) (new : State) → RefusesRead false ReadsCode BeginFault st e new
    → AnswersFault true (TextFault narrow wide) st e new
text_unbegun narrow wide st e new r = record {
  kept = r.kept;
  again = r.again;
  named = λ g. elim (r.named g) [ inl x ↦ inl (excused_by_source true e new x) | inr x ↦ inr (no_text x) ];
}

failed_begun : (fault : State → Error → Type 0) (st : State) (c : ℕ) (m : State) (e : Error) (new : State) → ReadsCode st c m
    → Answers m e new → IsExcused true e new ⊎ fault st e → AnswersFault true fault st e new
failed_begun fault st c m e new g kept why = record {
  kept = answered_begun g kept;
  again = λ d x. let h = g.going in absurd (cc);
  named = λ h. why;
}

pub text_other : (narrow wide : ℕ) (st : State) (c : ℕ) (m : State) (e : Error) (new : State) → ReadsCode st c m → (c ≡ narrow → ⊥)
    → (c ≡ wide → ⊥) → e ≡ refusal_of c → Answers m e new → AnswersFault true (TextFault narrow wide) st e new
text_other narrow wide st c m e new g f h is kept = failed_begun (TextFault narrow wide) st c m e new g kept (inr (no_text_code g f h is))

pub text_narrow : (narrow wide : ℕ) (st : State) (m : State) (e : Error) (new : State) → ReadsCode st narrow m → SizedFault true 1 m e new
    → AnswersFault true (TextFault narrow wide) st e new
text_narrow narrow wide st m e new g s =
    failed_begun (TextFault narrow wide) st narrow m e new g s.kept (elim s.why [ inl x ↦ inl x | inr x ↦ inr (narrow_short g x) ])

pub text_wide : (narrow wide : ℕ) (st : State) (m : State) (e : Error) (new : State) → ReadsCode st wide m → SizedFault true 4 m e new
    → AnswersFault true (TextFault narrow wide) st e new
text_wide narrow wide st m e new g s =
    failed_begun (TextFault narrow wide) st wide m e new g s.kept (elim s.why [ inl x ↦ inl x | inr x ↦ inr (wide_short g x) ])

-- a kind whose values are a size and as many bytes, under two codes
pub record IsText (k narrow wide : ℕ) (make : List ℕ → Primitive) : Type 0 where
  pub short_code : format narrow ≡ variable 1 (λ b. Some (make b))
  pub long_code : format wide ≡ variable 4 (λ b. Some (make b))
  pub kind : (s : List ℕ) → kind_of (make s) ≡ k
  pub codes : codes_of k ≡ narrow ∷ wide ∷ []

kind_narrow : (k narrow wide : ℕ) (make : List ℕ → Primitive) → IsText k narrow wide make → kind_at narrow ≡ Some k
kind_narrow k narrow wide make t = kind_is narrow k (ap kind_under t.short_code ∙ ap Some (t.kind []))

kind_wide : (k narrow wide : ℕ) (make : List ℕ → Primitive) → IsText k narrow wide make → kind_at wide ≡ Some k
kind_wide k narrow wide make t = kind_is wide k (ap kind_under t.long_code ∙ ap Some (t.kind []))

text_fault : (k narrow wide : ℕ) (make : List ℕ → Primitive) (st : State) (e : Error) → IsText k narrow wide make
    → TextFault narrow wide st e → PrimitiveFault k st e
text_fault k narrow wide make st e t (no_text f) = not_begun f
text_fault k narrow wide make st e t (no_text_code {c} g f h is) = wrong_code g (not_two k c narrow wide t.codes f h) is
text_fault k narrow wide make st e t (narrow_short {m} g l) =
    no_data g (kind_narrow k narrow wide make t) (subst (λ F. LacksData F m e) (sym t.short_code) l)
text_fault k narrow wide make st e t (wide_short {m} g l) =
    no_data g (kind_wide k narrow wide make t) (subst (λ F. LacksData F m e) (sym t.long_code) l)

pub text_refused : {A : Type 0} (contents : A → List ℕ) (k narrow wide : ℕ) (make : List ℕ → Primitive) (st : State) (e : Error)
    (new : State) → IsText k narrow wide make → AnswersFault true (TextFault narrow wide) st e new
    → RefusesRead true (ReadsValue (Means (λ (v : A). make (contents v)))) (PrimitiveFault k) st e new
text_refused contents k narrow wide make st e new t f =
    kind_failed (λ v. make (contents v)) k st e new (λ v. t.kind (contents v)) f.kept f.again
    (λ g. elim (f.named g) [ inl x ↦ inl x | inr x ↦ inr (text_fault k narrow wide make st e t x) ])

pub text_value : {A : Type 0} (contents : A → List ℕ) (k narrow wide : ℕ) (make : List ℕ → Primitive) (st : State) (v : A) (new : State)
    → IsText k narrow wide make → IsValid (make (contents v)) → ReadsText narrow wide st (contents v) new
    → ReadsValue (Means (λ (v : A). make (contents v))) st v new
text_value contents k narrow wide make st v new t valid x = elim x.sized [
  | inl (is, s) ↦ data_value (λ v. make (contents v)) x.code st x.mid _ v new x.begun
      (subst (λ c. PrimitiveData (format c) (make (contents v)) (bytes_high_first 1 (length (contents v)) ++ contents v)) (sym is)
      (subst (λ F. PrimitiveData F (make (contents v)) (bytes_high_first 1 (length (contents v)) ++ contents v)) (sym t.short_code)
      (contents v, s.fits, refl, refl, valid))) s.took
  | inr (is, s) ↦ data_value (λ v. make (contents v)) x.code st x.mid _ v new x.begun
      (subst (λ c. PrimitiveData (format c) (make (contents v)) (bytes_high_first 4 (length (contents v)) ++ contents v)) (sym is)
      (subst (λ F. PrimitiveData F (make (contents v)) (bytes_high_first 4 (length (contents v)) ++ contents v)) (sym t.long_code)
      (contents v, s.fits, refl, refl, valid))) s.took
]

pub no_text_value : (w : ℕ) (make : List ℕ → Primitive) (s : List ℕ) (p : Primitive) → length s < 256 ^ w → (IsValid (make s) → ⊥)
    → PrimitiveData (variable w (λ b. Some (make b))) p (bytes_high_first w (length s) ++ s) → ⊥
no_text_value w make s p few none (s', fits, is, v, valid) =
    let sizes = field w (length s) (length s') s s' few fits is in
    let same : make s ≡ p = ap make sizes.1 ∙ ap (λ o. unwrap_or o p) v in
    none (subst IsValid (sym same) valid)

bad_text_at : (k w code : ℕ) (make : List ℕ → Primitive) (st : State) (mid : State) (m : State) (s : List ℕ) (e : Error)
    → format code ≡ variable w (λ b. Some (make b)) → kind_at code ≡ Some k → ReadsCode st code mid → ReadsSized w mid s m
    → (IsValid (make s) → ⊥) → e ≡ bad k → PrimitiveFault k st e
bad_text_at k w code make st mid m s e f kind g z none is =
    let b : List ℕ = bytes_high_first w (length s) ++ s in
    bad_data g kind z.took (subst (λ F. IsWhole F b) (sym f) (s, z.fits, refl))
    (λ p d. no_text_value w make s p z.fits none (subst (λ F. PrimitiveData F p b) f d)) is

answered_text : {narrow wide : ℕ} {st : State} {s : List ℕ} {m : State} {e : Error} {new : State} → ReadsText narrow wide st s m
    → Answers m e new → Answers st e new
answered_text x a = answered_begun x.begun (elim x.sized [ inl (is, s) ↦ answered_took s.took a | inr (is, s) ↦ answered_took s.took a ])

-- bytes that are no text of the kind
pub text_bad : {A : Type 0} (contents : A → List ℕ) (k narrow wide : ℕ) (make : List ℕ → Primitive) (st : State) (m : State) (s : List ℕ)
    (e : Error) (new : State) → IsText k narrow wide make → (IsValid (make s) → ⊥) → ReadsText narrow wide st s m
    → e ≡ bad k → Answers m e new
    → RefusesRead true (ReadsValue (Means (λ (v : A). make (contents v)))) (PrimitiveFault k) st e new
text_bad contents k narrow wide make st m s e new t none x is kept =
    refused_kind (λ v. make (contents v)) k st e new (λ v. t.kind (contents v)) x.begun.going (answered_text x kept) (inr (elim x.sized [
      | inl (c, z) ↦ bad_text_at k 1 narrow make st x.mid m s e t.short_code (kind_narrow k narrow wide make t)
          (subst (λ i. ReadsCode st i x.mid) c x.begun) z none is
      | inr (c, z) ↦ bad_text_at k 4 wide make st x.mid m s e t.long_code (kind_wide k narrow wide make t)
          (subst (λ i. ReadsCode st i x.mid) c x.begun) z none is
    ]))

pub text_reads : {A : Type 0} (contents : A → List ℕ) (k narrow wide : ℕ) (make : List ℕ → Primitive) (st : State) (new : State)
    (r : Result A Error) → IsText k narrow wide make → ((s : List ℕ) → IsValid (make s))
    → IfOk r (λ v. ReadsText narrow wide st (contents v) new)
    → IfErr r (λ e. AnswersFault true (TextFault narrow wide) st e new)
    → AnswersRead true (ReadsValue (Means (λ (v : A). make (contents v)))) (PrimitiveFault k) st r new
text_reads contents k narrow wide make st new (Ok v) t valid x f = text_value contents k narrow wide make st v new t (valid (contents v)) x
text_reads contents k narrow wide make st new (Err e) t valid x f = text_refused contents k narrow wide make st e new t f

-- what was read is a text of the kind, or it is refused
pub checked_reads : {A : Type 0} (contents : A → List ℕ) (k narrow wide : ℕ) (make : List ℕ → Primitive) (st m : State) (s : List ℕ)
    (new : State) (r : Result A Error) → IsText k narrow wide make → ReadsText narrow wide st s m
    → IfOk r (λ v. IsValid (make s) × (contents v ≡ s) × (new ≡ m)) → IfErr r (λ e. (IsValid (make s) → ⊥) × (e ≡ bad k) × Answers m e new)
    → AnswersRead true (ReadsValue (Means (λ (v : A). make (contents v)))) (PrimitiveFault k) st r new
checked_reads contents k narrow wide make st m s new (Ok v) t x (valid, is, kept) f =
    text_value contents k narrow wide make st v new t (subst (λ z. IsValid (make z)) (sym is) valid)
    (subst (λ z. ReadsText narrow wide st z new) (sym is) (subst (ReadsText narrow wide st s) (sym kept) x))
checked_reads contents k narrow wide make st m s new (Err e) t x h (none, is, kept) =
    text_bad contents k narrow wide make st m s e new t none x is kept
