-- The fields of a value are written one after another.
use Rattle.std.proofs.Common.{◌≡◌, ℕ, zero, suc, ◌+◌, ◌<◌, ◌≤◌, true, false, List, [], ◌∷◌, ◌++◌, length, take, replicate, refl, sym, ◌∙◌, ap}
use Rattle.std.proofs.Common.{arith, add-one, append_assoc}
use Rattle.std.specs.Prelude.{Result, Ok, Err}
use Rattle.std.proofs.lemmas.List.{append-nil}
use Rattle.amqp_model.specs.Term.{null, Term, leaf}
use Rattle.amqp_model.specs.Items.{is_null, before_nulls, without_last_nulls}
use Rattle.amqp_model.specs.Fields.{rules_of, canonical_terms, canonical_items}
use Rattle.amqp_wire.specs.declared.error.Error.{Error}
use Rattle.amqp_encoder.specs.State.{Encoder}
use Rattle.amqp_encoder.specs.Tokens.{nulls}
use Rattle.amqp_encoder.specs.Writes.{Writes, outcome, pass_of}
use Rattle.amqp_codec.specs.Fields.{Fields, none, field, slots, canon_at}
use Rattle.amqp_codec.specs.FieldWriting.{first_terms, IsPending, WritesUpTo}
use Rattle.amqp_codec.specs.Written.{WritesTerms}
use Rattle.amqp_codec.proofs.Joining.{no_terms, terms_join, terms_cut, nulls_written}
use Rattle.amqp_codec.proofs.Trimming.{take_more, trim_null, trim_value, plain_null, field_keeps_no_bytes}

-- none is written yet
pub pending_none : {V : Type 0} (fs : Fields V) (v : V) (a : Encoder) → outcome (pass_of a) ≡ Ok tt → IsPending fs v 0 0 a a
pending_none fs v a g = record { left = refl; written = no_terms a (Ok tt) (sym g) }

-- Past the last field there is none.
past_all : {V : Type 0} (fs : Fields V) (v : V) (i : ℕ) → length (rules_of (slots fs)) ≤ i
    → first_terms fs v i ≡ canonical_terms (slots fs) v
past_all none v zero l = refl
past_all none v (suc i) l = refl
past_all (field get f fs) v zero l = absurd (omega arith)
past_all (field get f fs) v (suc i) l = ap (λ ts. f.slot.meaning.canon (get v) ∷ ts) (past_all fs v i (omega arith))

pub pending_past : {V : Type 0} (fs : Fields V) (v : V) (i n : ℕ) (a b : Encoder) → length (rules_of (slots fs)) ≤ i
    → IsPending fs v i n a b → IsPending fs v (i + 1) n a b
pending_past fs v i n a b l p =
    let same : first_terms fs v (i + 1) ≡ first_terms fs v i = past_all fs v (i + 1) (omega arith) ∙ sym (past_all fs v i l) in
    record { left = rw same p.left; written = rw same p.written }

-- all are written
pub pending_all : {V : Type 0} (fs : Fields V) (v : V) (i n : ℕ) (a b : Encoder) → length (rules_of (slots fs)) ≤ i
    → IsPending fs v i n a b → WritesTerms (canonical_items (slots fs) v) a (Ok tt) b
unfolding canonical_items
pending_all fs v i n a b l p = rw (past_all fs v i l) at p.written

-- one more null

one_more : (n : ℕ) (t : Term) → replicate n t ++ t ∷ [] ≡ replicate (suc n) t
one_more zero t = refl
one_more (suc n) t = ap (λ ts. t ∷ ts) (one_more n t)

pub pending_null : {V : Type 0} (fs : Fields V) (v : V) (i n : ℕ) (a b : Encoder) → i < length (rules_of (slots fs))
    → true ≡ is_null (canon_at fs i v) → IsPending fs v i n a b → IsPending fs v (i + 1) (n + 1) a b
pending_null fs v i n a b l z p =
    let none : canon_at fs i v ≡ leaf null = plain_null (canon_at fs i v) (field_keeps_no_bytes fs i v) (sym z) in
    let kept = trim_null fs i v l (sym z) in
    rw (add-one i, add-one n) (record {
      left = take_more fs i v l ∙ (rw (none, p.left, kept)
          (append_assoc (without_last_nulls (first_terms fs v i)) (replicate n (leaf null)) (leaf null ∷ [])
          ∙ ap (λ ts. without_last_nulls (first_terms fs v i) ++ ts) (one_more n (leaf null))));
      written = rw kept p.written;
    })

-- a field that isn't null

before_value : (t : Term) (us : List Term) → is_null t ≡ false → before_nulls t us ≡ t ∷ us
before_value t [] z = rw z refl
before_value t (u ∷ us) z = refl

-- what is written of all fields begins with those up to it
kept_front : {V : Type 0} (fs : Fields V) (n : ℕ) (v : V) → n < length (rules_of (slots fs)) → is_null (canon_at fs n v) ≡ false
    → (rest : List Term) × (without_last_nulls (canonical_terms (slots fs) v) ≡ take (suc n) (canonical_terms (slots fs) v) ++ rest)
kept_front none n v l z = absurd (omega arith)
kept_front (field get f fs) zero v l z =
    let rest = without_last_nulls (canonical_terms (slots fs) v) in
    (rest, before_value (f.slot.meaning.canon (get v)) rest z)
kept_front (field get f none) (suc n) v l z = absurd (omega arith)
kept_front (field get f (field h r fs)) (suc n) v l z =
    let k = kept_front (field h r fs) n v (omega arith) z in
    (k.0, ap (before_nulls (f.slot.meaning.canon (get v))) k.1)

-- the nulls before it
nulls_before : {V : Type 0} (fs : Fields V) (v : V) (i n : ℕ) (a b c : Encoder) (q : Result (Unit {0}) Error) → IsPending fs v i n a b
    → (n ≡ 0 → (c ≡ b) × (q ≡ Ok tt)) → (0 < n → Writes b (nulls n) q c) → WritesTerms (first_terms fs v i) a q c
nulls_before fs v i zero a b c q p h k =
    let none = h refl in
    rw (p.left, append-nil (without_last_nulls (first_terms fs v i)), none.0, none.1) p.written
nulls_before fs v i (suc n) a b c q p h k =
    rw p.left (terms_join (without_last_nulls (first_terms fs v i)) (replicate (suc n) (leaf null)) a b c (Ok tt) q refl p.written
    (nulls_written (suc n) b c q (k (omega arith))))

module _ {V : Type 0} (fs : Fields V) (v : V) (i n : ℕ) (a b c : Encoder) (l : i < length (rules_of (slots fs)))
    (z : false ≡ is_null (canon_at fs i v)) (p : IsPending fs v i n a b) where
  up_to : (q r : Result (Unit {0}) Error) (d : Encoder) → q ≡ Ok tt → (n ≡ 0 → (c ≡ b) × (q ≡ Ok tt)) → (0 < n → Writes b (nulls n) q c)
      → WritesTerms (canon_at fs i v ∷ []) c r d → WritesTerms (first_terms fs v (suc i)) a r d
  up_to q r d o h k w =
      rw (take_more fs i v l) (terms_join (first_terms fs v i) (canon_at fs i v ∷ []) a c d q r o (nulls_before fs v i n a b c q p h k) w)

  all_cut : (x : Error) (d : Encoder) (rest : List Term)
      → without_last_nulls (canonical_terms (slots fs) v) ≡ first_terms fs v (suc i) ++ rest
      → WritesTerms (first_terms fs v (suc i)) a (Err x) d → WritesTerms (canonical_items (slots fs) v) a (Err x) d
  unfolding canonical_items
  all_cut x d rest e w = rw e (terms_cut (first_terms fs v (suc i)) rest a d (Err x) (Err x) x refl (x, refl, refl) w)

  pub value_written : (q r : Result (Unit {0}) Error) (d : Encoder) (m : ℕ) → q ≡ Ok tt → m ≡ 0 → (n ≡ 0 → (c ≡ b) × (q ≡ Ok tt))
      → (0 < n → Writes b (nulls n) q c) → WritesTerms (canon_at fs i v ∷ []) c r d → WritesUpTo fs v (i + 1) a r m d
  value_written q (Ok u) d m o e h k w =
      let whole = trim_value fs i v l (sym z) in
      rw (add-one i, e) (record {
        left = sym (append-nil (without_last_nulls (first_terms fs v (suc i))) ∙ whole);
        written = rw whole (up_to q (Ok tt) d o h k w);
      })
  value_written q (Err x) d m o e h k w =
      let front = kept_front fs i v l (sym z) in
      all_cut x d front.0 front.1 (up_to q (Err x) d o h k w)

  pub nulls_refused : (q : Result (Unit {0}) Error) (x : Error) → q ≡ Err x → (n ≡ 0 → (c ≡ b) × (q ≡ Ok tt))
      → (0 < n → Writes b (nulls n) q c) → WritesTerms (canonical_items (slots fs) v) a (Err x) c
  nulls_refused q x o h k =
      let front = kept_front fs i v l (sym z) in
      all_cut x c front.0 front.1 (rw (take_more fs i v l)
      (terms_cut (first_terms fs v i) (canon_at fs i v ∷ []) a c q (Err x) x o (x, refl, refl) (nulls_before fs v i n a b c q p h k)))
