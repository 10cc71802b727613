-- The content of arrays.
use Rattle.std.proofs.Common.{◌≡◌, ℕ, suc, ◌+◌, ◌-◌, ◌≤◌, inl, inr, true, ◌||◌, cond, nat_lt, max, Result, Ok, Err, IfErr, IsErr, List, []}
use Rattle.std.proofs.Common.{◌∷◌, ◌++◌, length, take, drop, refl, sym, ap, ◌∙◌, subst, arith, append-nil}
use Rattle.std.proofs.lemmas.List.{take-append-drop}
use Rattle.std.proofs.lemmas.Bool.{lt-ltb}
use Rattle.amqp_wire.specs.declared.error.Error.{Error}
use Rattle.amqp_model.specs.Term.{Container, list, map, array, Term, Terms, leaf, container, described, kept, barred, none, more}
use Rattle.amqp_model.specs.Term.{Descriptor, count}
use Rattle.amqp_model.specs.Constructors.{compound, format}
use Rattle.amqp_model.specs.Spelling.{PrimitiveData, HasWidthZero, Constructor, Spelled, IsDataOf, AreElementsOf, AreSharedDataOf}
use Rattle.amqp_model.specs.Measures.{nest, nests, array_nest}
use Rattle.amqp_lengths.specs.Fronts.{Refuses}
use Rattle.amqp_lengths.specs.Pieces.{IsPrimitive}
use Rattle.amqp_lengths.specs.Lengths.{Constructs, HasConstructor, IsData, Row, levels_of, HasElements}
use Rattle.amqp_lengths.proofs.Codes.{is_container, Divided, container_at}
use Rattle.amqp_lengths.proofs.Containers.{no_container}
use Rattle.amqp_lengths.proofs.Terms.{behind_constructor, constructs_known}
use Rattle.amqp_lengths.proofs.Rows.{rows_data, data_rows}

-- what stands behind the constructor of an array of these items
abbrev pub Shared : Terms → List Descriptor → ℕ → List ℕ → Type 0
Shared none ds c b = b ≡ []
Shared (more t ts) ds c b = (HasWidthZero (format c) → ⊥) × AreSharedDataOf (more t ts) ds c b

spelled_begins : (D : List Descriptor → ℕ → List ℕ → Type 0) (b : List ℕ) → Spelled D b → (a r : List ℕ) × (b ≡ a ++ r) × HasConstructor a
spelled_begins D b (ds, c, few, (first, second, e, k, h)) = (first, second, e, (length ds, c, (ds, refl, few, k)))

elements_begin : (ts : Terms) (b : List ℕ) → (b ≡ [] → ⊥) → AreElementsOf ts b → (a r : List ℕ) × (b ≡ a ++ r) × HasConstructor a
elements_begin none b some (inl e) = absurd (some e)
elements_begin none b some (inr s) = spelled_begins _ b s
elements_begin (more t ts) b some s = spelled_begins _ b s

-- there is no constructor
pub elements_unbegun : (k n : ℕ) (b : List ℕ) (e : Error) → (b ≡ [] → ⊥) → Refuses HasConstructor b e → HasElements k n b → ⊥
elements_unbegun k n b e some h (ts, l, s, deep) =
    let (a, r, is, c) = elements_begin ts b some s in
    h.none [] (λ x. refl) a r (append-nil b ∙ is) c

pub elements_unread : {T : Type 0} (k n : ℕ) (b : List ℕ) (r : Result T Error) → (b ≡ [] → ⊥) → IfErr r (λ e. Refuses HasConstructor b e)
    → IsErr r → HasElements k n b → ⊥
elements_unread k n b (Ok x) some h e = absurd (cc)
elements_unread k n b (Err e) some h is = elements_unbegun k n b e some h

-- no bytes are no items
pub elements_none : (k n : ℕ) (b : List ℕ) → b ≡ [] → n ≡ 0 → HasElements k n b
elements_none k n b e l = (none, sym l, inl e, omega arith)

spelled_some : (D : List Descriptor → ℕ → List ℕ → Type 0) (b : List ℕ) → b ≡ [] → Spelled D b → ⊥
spelled_some D b e (ds, c, few, (first, second, s, k, h)) = let z : first ++ second ≡ [] = sym s ∙ e in starts ds c first second k z
  where
    starts : (ds : List Descriptor) (c : ℕ) (first second : List ℕ) → Constructor ds c first → first ++ second ≡ [] → ⊥
    starts [] c first second k z = let l = ap length (ap (λ x. x ++ second) (sym k.0) ∙ z) in absurd (omega (arith, l))
    starts (d ∷ ds) c first second (f, g, e, n, h) z = let l = ap length (ap (λ x. x ++ second) (sym e) ∙ z) in absurd (omega (arith, l))

pub elements_some : (k n : ℕ) (b : List ℕ) → b ≡ [] → (n ≡ 0 → ⊥) → HasElements k n b → ⊥
elements_some k n b e some (none, l, s, deep) = some (sym l)
elements_some k n b e some (more t ts, l, s, deep) = spelled_some _ b e s

-- the descriptors of the constructor that was found, and what stands behind it
pub elements_behind : (n c : ℕ) (a x : List ℕ) (ts : Terms) (b : List ℕ) → (b ≡ [] → ⊥) → Constructs n c a → AreElementsOf ts b → a ++ x ≡ b
    → (ds : List Descriptor) × (length ds ≡ n) × Constructor ds c a × Shared ts ds c x
elements_behind n c a x none b some h (inl e) s = absurd (some e)
elements_behind n c a x none b some h (inr (ds, c', few, (first, second, e, q, d))) s =
    let (es, r, l, k, is, v) = behind_constructor (λ ds c d. d ≡ []) n c a x ds c' first second b [] h e q d (s ∙ sym (append-nil b)) in
    (es, l, k, is ∙ append-nil r ∙ v)
elements_behind n c a x (more t ts) b some h (ds, c', few, (first, second, e, q, d)) s =
    let D : List Descriptor → ℕ → List ℕ → Type 0 = λ ds c d. (HasWidthZero (format c) → ⊥) × AreSharedDataOf (more t ts) ds c d in
    let (es, r, l, k, is, v) = behind_constructor D n c a x ds c' first second b [] h e q d (s ∙ sym (append-nil b)) in
    (es, l, k, (v.0, subst (AreSharedDataOf (more t ts) es c) (sym (is ∙ append-nil r)) v.1))

-- a constructor of no items
pub elements_bare : (k n c len : ℕ) (b : List ℕ) → Constructs n c (take len b) → drop len b ≡ [] → HasElements k 0 b
elements_bare k n c len b (ds, l, few, q) e =
    (none, refl, inr (ds, c, omega (arith, l, few), (take len b, drop len b, sym (take-append-drop len b), q, e)), omega arith)

pub elements_surplus : (k n c len : ℕ) (b : List ℕ) → (b ≡ [] → ⊥) → Constructs n c (take len b)
    → (drop len b ≡ [] → ⊥) → HasElements k 0 b → ⊥
elements_surplus k n c len b some h more_ (none, l, s, deep) =
    let (ds, m, _, v) = elements_behind n c (take len b) (drop len b) none b some h s (take-append-drop len b) in more_ v
elements_surplus k n c len b some h more_ (more t ts, l, s, deep) = absurd (omega arith)

-- items that count as levels of their own
abbrev Counts : Term → Type 0
Counts (container k ts) = Unit {0}
Counts (described d t) = Unit {0}
Counts _ = ⊥

counted : (t : Term) (ts : Terms) → Counts t → array_nest (more t ts) ≡ suc (max (nest t) (nests ts))
counted (container k us) ts h = refl
counted (described d t) ts h = refl
counted (leaf p) ts h = absurd h
counted (kept b) ts h = absurd h
counted (barred r) ts h = absurd h

held_counts : (t : Term) (kind : Container) (w c : ℕ) (b : List ℕ) → format c ≡ compound kind w → IsDataOf t [] c b → Counts t
held_counts (leaf p) kind w c b is h = absurd (subst (λ F. PrimitiveData F p b) is h)
held_counts (container k ts) kind w c b is h = tt
held_counts (described d t) kind w c b is h = absurd h
held_counts (kept x) kind w c b is h = absurd h
held_counts (barred r) kind w c b is h = absurd h

described_counts : (t : Term) (d : Descriptor) (ds : List Descriptor) (c : ℕ) (b : List ℕ) → IsDataOf t (d ∷ ds) c b → Counts t
described_counts (described e t) d ds c b h = tt
described_counts (container k ts) d ds c b h = tt
described_counts (leaf p) d ds c b h = absurd h
described_counts (kept x) d ds c b h = absurd h
described_counts (barred r) d ds c b h = absurd h

-- bare primitives nest in nothing
flat : (ts : Terms) (c : ℕ) (b : List ℕ) → IsPrimitive (format c) → AreSharedDataOf ts [] c b → (nests ts ≡ 0) × (array_nest ts ≡ 0)
flat none c b is h = (refl, refl)
flat (more (leaf p) ts) c b is (first, second, e, h, r) = let (m, n) = flat ts c second is r in (omega (arith, m), n)
flat (more (container list us) ts) c b is (first, second, e, h, r) = absurd (no_container (format c) list (count us) _ first is h)
flat (more (container map us) ts) c b is (first, second, e, h, r) = absurd (no_container (format c) map (count us) _ first is h.1)
flat (more (container array us) ts) c b is (first, second, e, h, r) = absurd (no_container (format c) array (count us) _ first is h)
flat (more (described d t) ts) c b is (first, second, e, h, r) = absurd h
flat (more (kept x) ts) c b is (first, second, e, h, r) = absurd h
flat (more (barred x) ts) c b is (first, second, e, h, r) = absurd h

-- An array of some items, of a constructor of so many descriptors, lies so many levels above their bare data.
pub record IsLevel (n c : ℕ) (t : Term) (ts : Terms) : Type 0 where
  pub most : (k : ℕ) → array_nest (more t ts) ≤ k → (levels_of n c ≤ k) × (nests (more t ts) ≤ n + (k - levels_of n c))
  pub least : (k : ℕ) → levels_of n c ≤ k → nests (more t ts) ≤ n + (k - levels_of n c) → array_nest (more t ts) ≤ k

level_counted : (n c : ℕ) (t : Term) (ts : Terms) → Counts t → levels_of n c ≡ n + 1 → n ≤ nest t → IsLevel n c t ts
level_counted n c t ts h l m =
    let e = counted t ts h in
    record {
      most = λ k a. (omega (arith, e, l, m), omega (arith, e, l, m));
      least = λ k a b. omega (arith, e, l, m);
    }

level_flat : (c : ℕ) (t : Term) (ts : Terms) → levels_of 0 c ≡ 0 → nests (more t ts) ≡ 0 → array_nest (more t ts) ≡ 0 → IsLevel 0 c t ts
level_flat c t ts l m e = record { most = λ k a. (omega (arith, l), omega (arith, m)); least = λ k a b. omega (arith, e) }

deep_enough : (t : Term) (ds : List Descriptor) (c : ℕ) (b : List ℕ) → IsDataOf t ds c b → length ds ≤ nest t
deep_enough t [] c b h = omega arith
deep_enough (described d t) (e ∷ ds) c b h = omega (arith, deep_enough t ds c b h.1)
deep_enough (leaf p) (e ∷ ds) c b h = absurd h
deep_enough (container list ts) (e ∷ ds) c b h = absurd h
deep_enough (container map ts) (e ∷ ds) c b h = absurd h
deep_enough (container array ts) (e ∷ ds) c b h = absurd h
deep_enough (kept k) (e ∷ ds) c b h = absurd h
deep_enough (barred r) (e ∷ ds) c b h = absurd h

level_bare : (c : ℕ) (t : Term) (ts : Terms) (b : List ℕ) → Divided c (format c) → AreSharedDataOf (more t ts) [] c b → IsLevel 0 c t ts
level_bare c t ts b (inl (p, e)) h =
    let (m, n) = flat (more t ts) c b p h in
    level_flat c t ts (ap (λ x. 0 + cond (nat_lt 0 0 || x) 1 0) e) m n
level_bare c t ts b (inr (kind, w, is, e)) (first, second, s, h, r) =
    level_counted 0 c t ts (held_counts t kind w c first is h) (ap (λ x. 0 + cond (nat_lt 0 0 || x) 1 0) e) (omega arith)

some_test : (n : ℕ) → nat_lt 0 (suc n) ≡ true
some_test n = lt-ltb 0 (suc n) (omega arith)

pub level : (ds : List Descriptor) (c : ℕ) (t : Term) (ts : Terms) (b : List ℕ) → Divided c (format c) → AreSharedDataOf (more t ts) ds c b
    → IsLevel (length ds) c t ts
level [] c t ts b v h = level_bare c t ts b v h
level (d ∷ ds) c t ts b v (first, second, s, h, r) =
    level_counted (length (d ∷ ds)) c t ts (described_counts t d ds c first h)
    (ap (λ x. length (d ∷ ds) + cond (x || is_container c) 1 0) (some_test (length ds))) (deep_enough t (d ∷ ds) c first h)

-- the items are the data behind the constructor
pub elements_rows : (k n c j len : ℕ) (b : List ℕ) → (b ≡ [] → ⊥) → Constructs n c (take len b) → (j ≡ 0 → ⊥) → HasElements k j b
    → (HasWidthZero (format c) → ⊥) × (levels_of n c ≤ k) × Row (IsData c (k - levels_of n c)) j (drop len b)
elements_rows k n c j len b some h more_ (none, l, s, deep) = absurd (more_ (sym l))
elements_rows k n c j len b some h more_ (more t ts, l, s, deep) =
    let (ds, m, _, (wide, v)) = elements_behind n c (take len b) (drop len b) (more t ts) b some h s (take-append-drop len b) in
    let e = subst (λ i. IsLevel i c t ts) m (level ds c t ts (drop len b) (container_at c (constructs_known n c (take len b) h)) v) in
    let (few, low) = e.most k deep in (
      wide,
      few,
      subst (λ i. Row (IsData c (k - levels_of n c)) i (drop len b)) l
          (data_rows ds c (k - levels_of n c) (more t ts) (drop len b)
          (subst (λ i. nests (more t ts) ≤ i + (k - levels_of n c)) (sym m) low) v),
    )

found_items : (k n c len : ℕ) (b : List ℕ) (ds : List Descriptor) (ts : Terms) (j : ℕ) → Constructs n c (take len b) → length ds ≡ n
    → length ds ≤ 128 → Constructor ds c (take len b) → (HasWidthZero (format c) → ⊥) → (j ≡ 0 → ⊥) → count ts ≡ j
    → levels_of n c ≤ k → nests ts ≤ length ds + (k - levels_of n c) → AreSharedDataOf ts ds c (drop len b) → HasElements k j b
found_items k n c len b ds none j h m short q wide some l few low v = absurd (some (sym l))
found_items k n c len b ds (more t ts) j h m short q wide some l few low v =
    let e = subst (λ i. IsLevel i c t ts) m (level ds c t ts (drop len b) (container_at c (constructs_known n c (take len b) h)) v) in
    let deep = e.least k few (subst (λ i. nests (more t ts) ≤ i + (k - levels_of n c)) m low) in
    (more t ts, l, (ds, c, short, (take len b, drop len b, sym (take-append-drop len b), q, (wide, v))), deep)

pub elements_found : (k n c j len : ℕ) (b : List ℕ) → Constructs n c (take len b) → (HasWidthZero (format c) → ⊥) → (j ≡ 0 → ⊥)
    → levels_of n c ≤ k → Row (IsData c (k - levels_of n c)) j (drop len b) → HasElements k j b
elements_found k n c j len b (ds, m, short, q) wide some few r =
    let (ts, l, low, v) = rows_data ds c (k - levels_of n c) j (drop len b) r in
    found_items k n c len b ds ts j (ds, m, short, q) m (omega (arith, m, short)) q wide some l few low v
