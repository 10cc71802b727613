-- Descriptors and constructors, found and refused.
use Rattle.std.proofs.Common.{◌≡◌, ℕ, suc, ◌+◌, ◌<◌, ◌≤◌, ◌⊎◌, inl, inr, List, [], ◌∷◌, ◌++◌, length, take, drop, get_or, unwrap_or, refl}
use Rattle.std.proofs.Common.{sym, ap, ◌∙◌, subst, arith, append_assoc, append-nil}
use Rattle.std.proofs.lemmas.List.{length-append}
use Rattle.std.proofs.Math.Seq.{take-add}
use Rattle.std.specs.Int.{from_be_bytes, w8, w64}
use Rattle.amqp_wire.specs.declared.error.Error.{Error}
use Rattle.amqp_wire.specs.declared.error.Error.TheVariants.{Cut}
use Rattle.amqp_model.specs.Term.{Descriptor, name, code}
use Rattle.amqp_model.specs.Constructors.{format}
use Rattle.amqp_model.specs.Spelling.{IsKnown, IsValid, PrimitiveData, descriptor_value, Names, Constructor}
use Rattle.amqp_model.proofs.Same.{names_same}
use Rattle.amqp_model.proofs.Bytes.{rest}
use Rattle.amqp_lengths.specs.Fronts.{IsFront, MayFollow, Refuses}
use Rattle.amqp_lengths.specs.Pieces.{PrimitiveOf, NamesAny, IsDescriptorCode}
use Rattle.amqp_lengths.specs.Lengths.{Marks, HasMarks, Constructs, HasConstructor}
use Rattle.amqp_lengths.proofs.Codes.{mark_at}
use Rattle.amqp_lengths.proofs.Fronts.{refuses_behind, refuses_short}

-- lists that begin with one byte
pub heads : (c c' : ℕ) (a x b y : List ℕ) → b ≡ c' ∷ a → c ∷ x ≡ b ++ y → (c ≡ c') × (x ≡ a ++ y)
heads c c' a x b y s e = let all : c ∷ x ≡ c' ∷ (a ++ y) = e ∙ ap (λ l. l ++ y) s in (ap (λ l. get_or l 0 0) all, ap (drop 1) all)

-- the data isn't there, or is no value
pub mark_short : (c : ℕ) (after : List ℕ) (e : Error) → Refuses (PrimitiveOf c) after e → Refuses NamesAny (c ∷ after) e
mark_short c after e h = record {
  none = λ more m b y is (d, (c', bytes, s, k)).
      let r = heads c c' bytes (after ++ more) b y s is in
      h.none more m bytes y r.1 (descriptor_value d, subst (λ z. PrimitiveData (format z) (descriptor_value d) bytes) (sym r.0) k);
}

-- no descriptor has the code
pub mark_other : (c : ℕ) (after : List ℕ) (e : Error) → (IsDescriptorCode c → ⊥) → Refuses NamesAny (c ∷ after) e
mark_other c after e other = record {
  none = λ more m b y is (d, (c', bytes, s, k)).
      let r = heads c c' bytes (after ++ more) b y s is in
      other (mark_at c d bytes (subst (λ z. PrimitiveData (format z) (descriptor_value d) bytes) (sym r.0) k));
}

abbrev IsMark : List ℕ → ℕ → Type 0
IsMark b c = PrimitiveOf c b → (d : Descriptor) × PrimitiveData (format c) (descriptor_value d) b

marks_value : (c : ℕ) (b : List ℕ) → IsDescriptorCode c → IsMark b c
marks_value c b (inl e) = subst (IsMark b) (sym e) (λ (p, (l, s, ok)). (code 0, (l, refl, tt)))
marks_value c b (inr (inl e)) = subst (IsMark b) (sym e) (λ (p, (l, s, ok)). (code (from_be_bytes w8 b), (l, refl, tt)))
marks_value c b (inr (inr (inl e))) = subst (IsMark b) (sym e) (λ (p, (l, s, ok)). (code (from_be_bytes w64 b), (l, refl, tt)))
marks_value c b (inr (inr (inr (inl e)))) =
    subst (IsMark b) (sym e)
    (λ (p, (s, fits, is, v, ok)). (name s, (s, fits, is, refl, subst IsValid (sym (ap (λ o. unwrap_or o p) v)) ok)))
marks_value c b (inr (inr (inr (inr e)))) =
    subst (IsMark b) (sym e)
    (λ (p, (s, fits, is, v, ok)). (name s, (s, fits, is, refl, subst IsValid (sym (ap (λ o. unwrap_or o p) v)) ok)))

pub mark_found : (c : ℕ) (after : List ℕ) (n : ℕ) → IsDescriptorCode c → IsFront (PrimitiveOf c) after n
    → IsFront NamesAny (c ∷ after) (1 + n)
mark_found c after n is f =
    let v = marks_value c (take n after) is f.spelled in
    let one : suc n ≡ 1 + n = omega arith in
    let long : 1 + n ≤ suc (length after) = omega (arith, f.within) in
    record { within = long; spelled = (v.0, (c, take n after, ap (λ k. take k (c ∷ after)) (sym one), v.1)) }

pub marks_done : (ds : List Descriptor) (c : ℕ) (b : List ℕ) → Marks ds b → IsKnown (format c) → Constructor ds c (b ++ (c ∷ []))
marks_done [] c b h k = (ap (λ l. l ++ (c ∷ [])) h, k)
marks_done (d ∷ ds) c b (first, second, e, n, h) k = (
  first,
  second ++ (c ∷ []),
  ap (λ l. l ++ (c ∷ [])) e ∙ ap (λ l. 0 ∷ l) (append_assoc first second (c ∷ [])),
  n,
  marks_done ds c second h k,
)

pub marks_more : (ds : List Descriptor) (d : Descriptor) (b a : List ℕ) → Marks ds b → Names d a → Marks (ds ++ (d ∷ [])) (b ++ (0 ∷ a))
marks_more [] d b a h n = (a, [], ap (λ l. l ++ (0 ∷ a)) h ∙ ap (λ l. 0 ∷ l) (sym (append-nil a)), n, refl)
marks_more (f ∷ ds) d b a (first, second, e, m, h) n = (
  first,
  second ++ (0 ∷ a),
  ap (λ l. l ++ (0 ∷ a)) e ∙ ap (λ l. 0 ∷ l) (append_assoc first second (0 ∷ a)),
  m,
  marks_more ds d second a h n,
)

-- of a constructor that begins as some descriptors do, what stands behind them
pub marks_front : (ds : List Descriptor) (a x : List ℕ) (es : List Descriptor) (c : ℕ) (b y : List ℕ) → Marks ds a
    → Constructor es c b → a ++ x ≡ b ++ y
    → (r : List ℕ) × (fs : List Descriptor) × (x ≡ r ++ y) × (length es ≡ length ds + length fs) × Constructor fs c r
marks_front [] a x es c b y h k e = (b, es, ap (λ l. l ++ x) (sym h) ∙ e, omega arith, k)
marks_front (d ∷ ds) a x [] c b y (first, second, s, m, h) (is, known) e =
    let r = heads 0 c [] ((first ++ second) ++ x) b y is (ap (λ l. l ++ x) (sym s) ∙ e) in
    absurd (subst (λ z. IsKnown (format z)) (sym r.0) known)
marks_front (d ∷ ds) a x (f ∷ es) c b y (first, second, s, m, h) (first', second', s', m', k) e =
    let r = heads 0 0 (first' ++ second') ((first ++ second) ++ x) b y s' (ap (λ l. l ++ x) (sym s) ∙ e) in
    let all : first ++ (second ++ x) ≡ first' ++ (second' ++ y) = sym (append_assoc first second x) ∙ r.1 ∙ append_assoc first' second' y in
    let same = names_same d f first first' (second ++ x) (second' ++ y) m m' all in
    let (t, fs, u, l, v) =
    marks_front ds second x es c second' y h k (rest first first' (second ++ x) (second' ++ y) (ap length same.0) all) in
    (t, fs, u, omega (arith, l), v)

-- a constructor that goes on behind n descriptors
abbrev pub GoesOn : ℕ → List ℕ → Type 0
GoesOn n b = (es : List Descriptor) × (c : ℕ) × (n + length es ≤ 128) × Constructor es c b

marks_behind : (ds : List Descriptor) (a x : List ℕ) (es : List Descriptor) (c : ℕ) (b y : List ℕ) → Marks ds a → length es ≤ 128
    → Constructor es c b → a ++ x ≡ b ++ y
    → (r : List ℕ) × (x ≡ r ++ y) × GoesOn (length ds) r
marks_behind ds a x es c b y h few k e =
    let (r, fs, u, l, v) = marks_front ds a x es c b y h k e in (r, u, (fs, c, omega (arith, l), v))

pub marks_refuse : (n len : ℕ) (input after : List ℕ) (e : Error) → HasMarks n (take len input) → drop len input ≡ after
    → Refuses (GoesOn n) after e → Refuses HasConstructor input e
marks_refuse n len input after e (ds, l, h) at k =
    refuses_behind HasConstructor (GoesOn n) input len e (λ b x y (m, c, (es, l', few, q)) r.
    let (t, u, v) = marks_behind ds (take len input) x es c b y h (omega arith) q r in (t, u, (v.0, v.1, omega (arith, v.2), v.3)))
    (subst (λ z. Refuses (GoesOn n) z e) (sym at) k)

-- what follows is no constructor that goes on
pub no_code : (n c : ℕ) (after : List ℕ) (e : Error) → (c ≡ 0 → ⊥) → (IsKnown (format c) → ⊥) → Refuses (GoesOn n) (c ∷ after) e
no_code n c after e some unknown_ = record { none = λ more m b y is h. go more b y is h }
  where
    go : (more b y : List ℕ) → (c ∷ after) ++ more ≡ b ++ y → GoesOn n b → ⊥
    go more b y is ([], c', few, (s, known)) =
        unknown_ (subst (λ z. IsKnown (format z)) (sym (heads c c' [] (after ++ more) b y s is).0) known)
    go more b y is (d ∷ es, c', few, (first, second, s, m, k)) = some (heads c 0 (first ++ second) (after ++ more) b y s is).0

pub too_many : (n : ℕ) (after : List ℕ) (e : Error) → n ≡ 128 → Refuses (GoesOn n) (0 ∷ after) e
too_many n after e all = record { none = λ more m b y is h. go more b y is h }
  where
    go : (more b y : List ℕ) → (0 ∷ after) ++ more ≡ b ++ y → GoesOn n b → ⊥
    go more b y is ([], c', few, (s, known)) =
        absurd (subst (λ z. IsKnown (format z)) (sym (heads 0 c' [] (after ++ more) b y s is).0) known)
    go more b y is (d ∷ es, c', few, k) = absurd (omega arith)

pub no_name : (n : ℕ) (after : List ℕ) (e : Error) → Refuses NamesAny after e → Refuses (GoesOn n) (0 ∷ after) e
no_name n after e h = record { none = λ more m b y is g. go more m b y is g }
  where
    go : (more : List ℕ) → MayFollow e more → (b y : List ℕ) → (0 ∷ after) ++ more ≡ b ++ y → GoesOn n b → ⊥
    go more m b y is ([], c', few, (s, known)) =
        absurd (subst (λ z. IsKnown (format z)) (sym (heads 0 c' [] (after ++ more) b y s is).0) known)
    go more m b y is (d ∷ es, c', few, (first, second, s, q, k)) =
        h.none more m first (second ++ y) ((heads 0 0 (first ++ second) (after ++ more) b y s is).1 ∙ append_assoc first second y) (d, q)

goes_on_length : (n : ℕ) (b : List ℕ) → GoesOn n b → 1 ≤ length b
goes_on_length n b ([], c, few, (s, k)) = omega (arith, ap length s)
goes_on_length n b (d ∷ es, c, few, (first, second, s, m, k)) = omega (arith, ap length s)

pub no_end : (n : ℕ) (input : List ℕ) → length input < 1 → Refuses (GoesOn n) input Cut
no_end n input short = refuses_short (GoesOn n) input 1 Cut (goes_on_length n) (refl, short)

-- one more descriptor
pub one_more : (n len k : ℕ) (input after : List ℕ) → HasMarks n (take len input) → drop len input ≡ 0 ∷ after → IsFront NamesAny after k
    → HasMarks (n + 1) (take (len + (1 + k)) input)
one_more n len k input after (ds, l, h) at f =
    let (d, m) = f.spelled in
    let one : suc k ≡ 1 + k = omega arith in
    let next : take (1 + k) (drop len input) ≡ 0 ∷ take k after = ap (λ j. take j (drop len input)) (sym one) ∙ ap (take (suc k)) at in
    let all : take (len + (1 + k)) input ≡ take len input ++ (0 ∷ take k after) =
    take-add len (1 + k) input ∙ ap (λ x. take len input ++ x) next in (
      ds ++ (d ∷ []),
      length-append ds (d ∷ []) ∙ (omega arith),
      subst (Marks (ds ++ (d ∷ []))) (sym all) (marks_more ds d (take len input) (take k after) h m),
    )

-- the code that ends the constructor
pub ended : (n len c : ℕ) (input after : List ℕ) → n ≤ 128 → HasMarks n (take len input) → drop len input ≡ c ∷ after → (c ≡ 0 → ⊥)
    → (c ≡ 0) ⊎ IsKnown (format c) → Constructs n c (take (len + 1) input)
ended n len c input after few h at some (inl none) = absurd (some none)
ended n len c input after few (ds, l, h) at some (inr known) =
    let all : take (len + 1) input ≡ take len input ++ (c ∷ []) = take-add len 1 input ∙ ap (λ x. take len input ++ take 1 x) at in
    (ds, l, few, subst (Constructor ds c) (sym all) (marks_done ds c (take len input) h known))
