-- Pieces one after another.
use Rattle.std.proofs.Common.{◌≡◌, ℕ, zero, suc, Result, Ok, Err, IfOk, IfErr, IsErr, ◌+◌, ◌-◌, ◌<◌, ◌≤◌, List, [], ◌∷◌, ◌++◌, length, take}
use Rattle.std.proofs.Common.{drop, refl, sym, ap, ◌∙◌, subst, subst₂, arith, append_assoc, append-nil, drop-drop}
use Rattle.std.proofs.lemmas.List.{take-append-drop, length-drop}
use Rattle.std.proofs.Math.Seq.{take-add}
use Rattle.amqp_wire.specs.declared.error.Error.{Error}
use Rattle.amqp_model.specs.Term.{Terms, none, more, Descriptor, count}
use Rattle.amqp_model.specs.Spelling.{AreItemsOf, AreSharedDataOf, IsSpelling}
use Rattle.amqp_model.specs.Measures.{nests}
use Rattle.amqp_model.proofs.Bytes.{rest}
use Rattle.amqp_lengths.specs.Fronts.{IsFront, Refuses}
use Rattle.amqp_lengths.specs.Lengths.{IsTerm, IsData, Row}
use Rattle.amqp_lengths.proofs.Fronts.{tail_all}
use Rattle.amqp_lengths.proofs.Terms.{bare, describe, described_data, described_nest}

abbrev ok_or : Result ℕ Error → ℕ → ℕ
ok_or (Ok n) m = n
ok_or (Err e) m = m

abbrev pub Once : (List ℕ → Type 0) → Type 0
Once P = (b b' x y : List ℕ) → P b → P b' → b ++ x ≡ b' ++ y → b ≡ b'

-- Of n pieces the first i are the first bytes: the others are a row exactly if all of them are.
pub record Begins (P : List ℕ → Type 0) (n : ℕ) (content : List ℕ) (i len : ℕ) : Type 0 where
  pub within : len ≤ length content
  pub pieces : Row P i (take len content)
  pub there : Row P n content → Row P (n - i) (drop len content)
  pub back : Row P (n - i) (drop len content) → Row P n content

pub begins_none : (P : List ℕ → Type 0) (n : ℕ) (content : List ℕ) → Begins P n content 0 0
begins_none P n content =
    let same : n - 0 ≡ n = omega arith in
    record {
      within = omega arith;
      pieces = refl;
      there = λ h. subst (λ k. Row P k content) (sym same) h;
      back = λ h. subst (λ k. Row P k content) same h;
    }

-- a row and one piece more
row_more : (P : List ℕ → Type 0) (n : ℕ) (a b : List ℕ) → Row P n a → P b → Row P (suc n) (a ++ b)
row_more P zero a b h p = (b, [], ap (λ l. l ++ b) h ∙ sym (append-nil b), p, refl)
row_more P (suc n) a b (first, second, e, q, r) p =
    (first, second ++ b, ap (λ l. l ++ b) e ∙ append_assoc first second b, q, row_more P n second b r p)

first_piece : (P : List ℕ → Type 0) → Once P → (m k : ℕ) (b : List ℕ) → IsFront P b k → Row P (suc m) b → Row P m (drop k b)
first_piece P once m k b f (first, second, e, p, r) =
    let all : take k b ++ drop k b ≡ first ++ second = take-append-drop k b ∙ e in
    let same : take k b ≡ first = once (take k b) first (drop k b) second f.spelled p all in
    subst (Row P m) (sym (rest (take k b) first (drop k b) second (ap length same) all)) r

pub begins_more : (P : List ℕ → Type 0) → Once P → (n : ℕ) (content : List ℕ) (i len k : ℕ) → i < n → Begins P n content i len
    → IsFront P (drop len content) k → Begins P n content (i + 1) (len + k)
begins_more P once n content i len k less h f =
    let left : n - i ≡ suc (n - (i + 1)) = omega arith in
    let behind : drop k (drop len content) ≡ drop (len + k) content = drop-drop k len content in
    let within = h.within in
    let within2 = f.within in
    let one : suc i ≡ i + 1 = omega arith in
    record {
      within = omega (arith, within, within2, length-drop len content);
      pieces = subst₂ (Row P) one (sym (take-add len k content))
          (row_more P i (take len content) (take k (drop len content)) h.pieces f.spelled);
      there = λ r. subst (Row P (n - (i + 1))) behind
          (first_piece P once (n - (i + 1)) k (drop len content) f (subst (λ m. Row P m (drop len content)) left (h.there r)));
      back = λ r. h.back (subst (λ m. Row P m (drop len content)) (sym left) (
        take k (drop len content),
        drop k (drop len content),
        sym (take-append-drop k (drop len content)),
        f.spelled,
        subst (Row P (n - (i + 1))) (sym behind) r,
      ));
    }

-- the next piece isn't there
pub begins_not : (P : List ℕ → Type 0) (n : ℕ) (content : List ℕ) (i len : ℕ) (e : Error) → i < n → Begins P n content i len
    → Refuses P (drop len content) e → Row P n content → ⊥
begins_not P n content i len e less h f r =
    let left : n - i ≡ suc (n - (i + 1)) = omega arith in
    go (subst (λ m. Row P m (drop len content)) left (h.there r))
  where
    go : Row P (suc (n - (i + 1))) (drop len content) → ⊥
    go (first, second, s, p, q) = f.none [] (λ x. refl) first second (append-nil (drop len content) ∙ s) p

-- the same from the answer of a call
pub piece_more : (P : List ℕ → Type 0) → Once P → (n : ℕ) (content : List ℕ) (i len k : ℕ) (r : Result ℕ Error) → i < n
    → Begins P n content i len
    → IfOk r (λ m. IsFront P (take (length content - len) (drop len content)) m) → r ≡ Ok k → Begins P n content (i + 1) (len + k)
piece_more P once n content i len k (Ok m) less h f e =
    let same : m ≡ k = ap (λ r. ok_or r 0) e in
    begins_more P once n content i len k less h
    (subst (λ j. IsFront P (drop len content) j) same (subst (λ l. IsFront P l m) (tail_all len content) f))
piece_more P once n content i len k (Err x) less h f e = absurd (cc)

pub piece_not : (P : List ℕ → Type 0) (n : ℕ) (content : List ℕ) (i len : ℕ) (r : Result ℕ Error) → i < n → Begins P n content i len
    → IfErr r (λ e. Refuses P (take (length content - len) (drop len content)) e) → IsErr r → Row P n content → ⊥
piece_not P n content i len (Ok m) less h f e = absurd (cc)
piece_not P n content i len (Err x) less h f e = begins_not P n content i len x less h (subst (λ l. Refuses P l x) (tail_all len content) f)

pub no_bytes : (l : List ℕ) → length l ≡ 0 → l ≡ []
no_bytes [] e = refl
no_bytes (x ∷ l) e = absurd (omega arith)

pub begins_all : (P : List ℕ → Type 0) (n : ℕ) (content : List ℕ) (i len : ℕ) → n ≤ i → Begins P n content i len
    → len ≡ length content → Row P n content
begins_all P n content i len most h all =
    let left : n - i ≡ 0 = omega arith in
    h.back (subst (λ m. Row P m (drop len content)) (sym left) (no_bytes (drop len content) (length-drop len content ∙ (omega arith))))

pub begins_less : (P : List ℕ → Type 0) (n : ℕ) (content : List ℕ) (i len : ℕ) → n ≤ i → Begins P n content i len
    → (len ≡ length content → ⊥) → Row P n content → ⊥
begins_less P n content i len most h less r =
    let left : n - i ≡ 0 = omega arith in
    let empty : drop len content ≡ [] = subst (λ m. Row P m (drop len content)) left (h.there r) in
    let within = h.within in
    less (omega (arith, within, ap length empty, length-drop len content))

-- the items of a list or map
pub rows_items : (k n : ℕ) (b : List ℕ) → Row (IsTerm k) n b → (ts : Terms) × (count ts ≡ n) × (nests ts ≤ k) × AreItemsOf ts b
unfolding IsSpelling
rows_items k zero b h = (none, refl, omega arith, h)
rows_items k (suc n) b (first, second, e, (t, s, deep), r) =
    let (ts, c, d, i) = rows_items k n second r in (more t ts, ap suc c, omega (arith, deep, d), (first, second, e, s, i))

pub items_rows : (k : ℕ) (ts : Terms) (b : List ℕ) → nests ts ≤ k → AreItemsOf ts b → Row (IsTerm k) (count ts) b
unfolding IsSpelling
items_rows k none b deep h = h
items_rows k (more t ts) b deep (first, second, e, s, r) = (first, second, e, (t, s, omega arith), items_rows k ts second (omega arith) r)

-- the data of the items of an array
pub rows_data : (ds : List Descriptor) (c k n : ℕ) (b : List ℕ) → Row (IsData c k) n b → (ts : Terms) × (count ts ≡ n)
    × (nests ts ≤ length ds + k) × AreSharedDataOf ts ds c b
rows_data ds c k zero b h = (none, refl, omega arith, h)
rows_data ds c k (suc n) b (first, second, e, (u, s, deep), r) =
    let (ts, l, d, i) = rows_data ds c k n second r in
    (more (describe ds u) ts, ap suc l, omega (arith, deep, d, described_nest ds u), (first, second, e, described_data ds u c first s, i))

pub data_rows : (ds : List Descriptor) (c k : ℕ) (ts : Terms) (b : List ℕ) → nests ts ≤ length ds + k → AreSharedDataOf ts ds c b
    → Row (IsData c k) (count ts) b
data_rows ds c k none b deep h = h
data_rows ds c k (more t ts) b deep (first, second, e, s, r) =
    let (u, d, n) = bare t ds c first s in
    (first, second, e, (u, d, omega (arith, deep, n)), data_rows ds c k ts second (omega arith) r)
