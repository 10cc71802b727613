-- The constructor of an array's items, which is passed over descriptor by descriptor.
use Rattle.std.proofs.Common.{◌≡◌, ℕ, suc, ◌+◌, ◌≤◌, List, [], ◌∷◌, ◌++◌, take, drop, length, get_or, refl, sym, ap, ◌∙◌, subst, arith, append_assoc}
use Rattle.std.proofs.Math.Seq.{drop-drop}
use Rattle.std.proofs.lemmas.List.{take-append-drop, length-append, length-take-le}
use Rattle.amqp_model.specs.Term.{Descriptor, leaf}
use Rattle.amqp_model.specs.Constructors.{Format, fixed, variable, compound, unknown, format}
use Rattle.amqp_model.specs.Spelling.{IsKnown, PrimitiveData, Names, Constructor, descriptor_value, IsSpelling}
use Rattle.amqp_model.proofs.Bytes.{rest}
use Rattle.amqp_model.proofs.Unique.{one_front}
use Rattle.amqp_lengths.specs.Fronts.{IsFront, NoFront}
use Rattle.amqp_lengths.specs.Lengths.{IsTerm}

-- What is left behind so many bytes of each constructor that the bytes begin with.
abbrev pub Left : List ℕ → ℕ → Type 0
Left bytes len = (ds : List Descriptor) (c : ℕ) (own behind : List ℕ) → bytes ≡ own ++ behind → Constructor ds c own
    → (es : List Descriptor) × (left : List ℕ) × (drop len bytes ≡ left ++ behind) × Constructor es c left × (len + length left ≡ length own)

pub left_all : (bytes : List ℕ) → Left bytes 0
left_all bytes ds c own behind is k = (ds, own, is, k, omega arith)

primitive_known : (F : Format) (d : Descriptor) (b : List ℕ) → PrimitiveData F (descriptor_value d) b → IsKnown F
primitive_known (fixed w v) d b h = tt
primitive_known (variable w v) d b h = tt
primitive_known (compound k w) d b h = tt
primitive_known unknown d b h = h

-- a descriptor is a term
pub named_term : (d : Descriptor) (b : List ℕ) → Names d b → IsSpelling b (leaf (descriptor_value d))
unfolding IsSpelling
named_term d b (c, data_, is, h) =
    ([], c, omega arith, (c ∷ [], data_, is, (refl, primitive_known (format c) d data_ h), h))

pub constructor_some : (ds : List Descriptor) (c : ℕ) (b : List ℕ) → Constructor ds c b → 1 ≤ length b
constructor_some [] c b h = omega (arith, ap length h.0)
constructor_some (d ∷ ds) c b (first, second, e, n, k) = omega (arith, ap length e)

pub heads : (x y : ℕ) (a b : List ℕ) → x ∷ a ≡ y ∷ b → (x ≡ y) × (a ≡ b)
heads x y a b e = (ap (λ l. get_or l 0 0) e, ap (drop 1) e)

-- what a constructor begins with that bytes begin with, whose first is no 0, or is one
code_left : (es : List Descriptor) (c x : ℕ) (left behind others : List ℕ) → x ∷ others ≡ left ++ behind → Constructor es c left → (x ≡ 0 → ⊥)
    → (x ≡ c) × (length left ≡ 1)
code_left [] c x left behind others e k some =
    ((heads x c others behind (e ∙ ap (λ l. l ++ behind) k.0)).0, ap length k.0)
code_left (d ∷ es) c x left behind others e (first, second, is, n, k) some =
    absurd (some (heads x 0 others ((first ++ second) ++ behind) (e ∙ ap (λ l. l ++ behind) is)).0)

abbrev Named : ℕ → List ℕ → List ℕ → List ℕ → Type 0
Named c others left behind =
    (d : Descriptor) × (es : List Descriptor) × (first second : List ℕ) × (others ≡ first ++ (second ++ behind)) × Names d first
    × Constructor es c second × (length left ≡ 1 + (length first + length second))

descriptor_left : (es : List Descriptor) (c : ℕ) (left behind others : List ℕ) → 0 ∷ others ≡ left ++ behind → Constructor es c left
    → Named c others left behind
descriptor_left [] c left behind others e k =
    absurd (subst (λ z. IsKnown (format z)) (sym (heads 0 c others behind (e ∙ ap (λ l. l ++ behind) k.0)).0) k.1)
descriptor_left (d ∷ es) c left behind others e (first, second, is, n, k) =
    let all = heads 0 0 others ((first ++ second) ++ behind) (e ∙ ap (λ l. l ++ behind) is) in
    (d, es, first, second, all.1 ∙ append_assoc first second behind, n, k, omega (arith, ap length is, length-append first second))

-- one descriptor less is left
pub left_less : (bytes others : List ℕ) (len n : ℕ) → Left bytes len → drop len bytes ≡ 0 ∷ others → IsFront (IsTerm 128) others n
    → Left bytes (len + (1 + n))
left_less bytes others len n h at f ds c own behind is k =
    let (es, left, at', k', l) = h ds c own behind is k in
    let (d, fs, first, second, e, names, k2, long) = descriptor_left es c left behind others (sym at ∙ at') k' in
    let (t, spelled, deep) = f.spelled in
    let whole : take n others ++ drop n others ≡ first ++ (second ++ behind) = take-append-drop n others ∙ e in
    let same : take n others ≡ first =
    one_front (take n others) first (drop n others) (second ++ behind) t (leaf (descriptor_value d)) spelled (named_term d first names) whole in
    let size : n ≡ length first = sym (length-take-le n others f.within) ∙ ap length same in
    let behind_ : drop n others ≡ second ++ behind = rest (take n others) first (drop n others) (second ++ behind) (ap length same) whole in
    let one : 1 + n ≡ suc n = omega arith in (
      fs,
      second,
      sym (drop-drop (1 + n) len bytes) ∙ ap (drop (1 + n)) at ∙ ap (λ k. drop k (0 ∷ others)) one ∙ behind_,
      k2,
      omega (arith, l, long, size),
    )

-- no term stands where a descriptor must
pub left_never : (bytes others : List ℕ) (len : ℕ) → Left bytes len → drop len bytes ≡ 0 ∷ others → NoFront (IsTerm 128) others
    → (ds : List Descriptor) (c : ℕ) (own behind : List ℕ) → bytes ≡ own ++ behind → Constructor ds c own → ⊥
left_never bytes others len h at never ds c own behind is k =
    let (es, left, at', k', l) = h ds c own behind is k in
    let (d, fs, first, second, e, names, k2, long) = descriptor_left es c left behind others (sym at ∙ at') k' in
    never first (second ++ behind) e (leaf (descriptor_value d), named_term d first names, omega arith)

-- the code that ends it
pub left_code : (bytes others : List ℕ) (len x : ℕ) → Left bytes len → drop len bytes ≡ x ∷ others → (x ≡ 0 → ⊥)
    → (ds : List Descriptor) (c : ℕ) (own behind : List ℕ) → bytes ≡ own ++ behind → Constructor ds c own → (x ≡ c) × (len + 1 ≡ length own)
left_code bytes others len x h at some ds c own behind is k =
    let (es, left, at', k', l) = h ds c own behind is k in
    let (same, one) = code_left es c x left behind others (sym at ∙ at') k' some in
    (same, omega (arith, l, one))

-- nothing is left of none
pub left_some : (bytes : List ℕ) (len : ℕ) → Left bytes len → length (drop len bytes) ≡ 0
    → (ds : List Descriptor) (c : ℕ) (own behind : List ℕ) → bytes ≡ own ++ behind → Constructor ds c own → ⊥
left_some bytes len h none ds c own behind is k =
    let (es, left, at', k', l) = h ds c own behind is k in
    let some = constructor_some es c left k' in
    absurd (omega (arith, some, none, ap length at', length-append left behind))
