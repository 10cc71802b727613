-- No bytes spell two terms.
use Rattle.std.proofs.Common.{◌≡◌, ℕ, ◌≤◌, List, [], ◌∷◌, ◌++◌, refl, sym, ap, ap₂, ◌∙◌, arith, append-nil}
use Rattle.std.proofs.Math.Nat.{suc_inj}
use Rattle.amqp_model.specs.Term.{Primitive, Container, Term, Terms, Descriptor, leaf, container, described, kept, barred, none, more, list}
use Rattle.amqp_model.specs.Term.{map, array, count}
use Rattle.amqp_model.specs.Constructors.{Format, fixed, variable, compound, unknown, format}
use Rattle.amqp_model.specs.Spelling.{Joined, PrimitiveData, ContainerData, Spelled, HasWidthZero, IsDataOf, AreItemsOf, AreElementsOf}
use Rattle.amqp_model.specs.Spelling.{AreSharedDataOf, IsSpelling}
use Rattle.amqp_model.proofs.Bytes.{rest}
use Rattle.amqp_model.proofs.Same.{Same, One, one, joined_same, primitive_same, container_same, spelled_same}

-- what a format is of: 0 a primitive, 1, 2, 3 a list, map, array
abbrev kind : Container → ℕ
kind list = 1
kind map = 2
kind array = 3

kind_least : (k : Container) → 1 ≤ kind k
kind_least list = omega arith
kind_least map = omega arith
kind_least array = omega arith

kind_most : (k : Container) → kind k ≤ 3
kind_most list = omega arith
kind_most map = omega arith
kind_most array = omega arith

abbrev sort : Format → ℕ
sort (fixed w v) = 0
sort (variable w v) = 0
sort (compound k w) = kind k
sort unknown = 4

primitive_sort : (F : Format) (p : Primitive) (b : List ℕ) → PrimitiveData F p b → sort F ≡ 0
primitive_sort (fixed w v) p b h = refl
primitive_sort (variable w v) p b h = refl
primitive_sort (compound k w) p b h = absurd h
primitive_sort unknown p b h = absurd h

pub container_sort : (F : Format) (k : Container) (n : ℕ) (C : List ℕ → Type 0) (b : List ℕ) → ContainerData F k n C b → sort F ≡ kind k
container_sort (fixed w v) k n C b h = absurd h
container_sort (variable w v) k n C b h = absurd h
container_sort (compound k' w) k n C b h = ap kind h.0
container_sort unknown k n C b h = absurd h

abbrev sort_of : Term → ℕ
sort_of (leaf p) = 0
sort_of (container k ts) = kind k
sort_of (described d t) = 5
sort_of (kept b) = 6
sort_of (barred r) = 7

bare_sort : (t : Term) (c : ℕ) (b : List ℕ) → IsDataOf t [] c b → sort (format c) ≡ sort_of t
bare_sort (leaf p) c b h = primitive_sort (format c) p b h
bare_sort (container list ts) c b h = container_sort (format c) list (count ts) (AreItemsOf ts) b h
bare_sort (container map ts) c b h = container_sort (format c) map (count ts) (AreItemsOf ts) b h.1
bare_sort (container array ts) c b h = container_sort (format c) array (count ts) (AreElementsOf ts) b h
bare_sort (described d t) c b h = absurd h
bare_sort (kept k) c b h = absurd h
bare_sort (barred r) c b h = absurd h

described_sort : (t : Term) (f : Descriptor) (ds : List Descriptor) (c : ℕ) (b : List ℕ) → IsDataOf t (f ∷ ds) c b → sort_of t ≡ 5
described_sort (leaf p) f ds c b h = absurd h
described_sort (container list ts) f ds c b h = absurd h
described_sort (container map ts) f ds c b h = absurd h
described_sort (container array ts) f ds c b h = absurd h
described_sort (described d t) f ds c b h = refl
described_sort (kept k) f ds c b h = absurd h
described_sort (barred r) f ds c b h = absurd h

-- data under one constructor is of one sort
one_sort : (t t' : Term) (ds : List Descriptor) (c : ℕ) (b b' : List ℕ) → IsDataOf t ds c b → IsDataOf t' ds c b' → sort_of t ≡ sort_of t'
one_sort t t' [] c b b' h h' = sym (bare_sort t c b h) ∙ bare_sort t' c b' h'
one_sort t t' (f ∷ ds) c b b' h h' = described_sort t f ds c b h ∙ sym (described_sort t' f ds c b' h')

mutual
  pub data_same : (t t' : Term) (ds : List Descriptor) (c : ℕ) → Same (IsDataOf t ds c) (IsDataOf t' ds c) (t ≡ t')
  data_same (leaf p) (leaf p') [] c b b' x y h h' e =
      let r = primitive_same (format c) p p' b b' x y h h' e in (r.0, ap leaf r.1)
  data_same (container list ts) (container list ts') [] c b b' x y h h' e =
      container_same (format c) list (count ts) (count ts') (AreItemsOf ts) (AreItemsOf ts') _
      (λ n. one (AreItemsOf ts) (AreItemsOf ts') _ (λ m m' x y i i' e. let r = items_same ts ts' n m m' x y i i' e in
      (r.0, ap (container list) r.1))) b b' x y h h' e
  data_same (container map ts) (container map ts') [] c b b' x y h h' e =
      container_same (format c) map (count ts) (count ts') (AreItemsOf ts) (AreItemsOf ts') _
      (λ n. one (AreItemsOf ts) (AreItemsOf ts') _ (λ m m' x y i i' e. let r = items_same ts ts' n m m' x y i i' e in
      (r.0, ap (container map) r.1))) b b' x y h.1 h'.1 e
  data_same (container array ts) (container array ts') [] c b b' x y h h' e =
      container_same (format c) array (count ts) (count ts') (AreElementsOf ts) (AreElementsOf ts') _
      (λ n m i i'. ap (container array) (elements_same ts ts' n m i i')) b b' x y h h' e
  data_same (described d t) (described d' t') (f ∷ ds) c b b' x y h h' e =
      let r = data_same t t' ds c b b' x y h.1 h'.1 e in (r.0, ap₂ described (h.0 ∙ sym h'.0) r.1)
  data_same (leaf p) t' (f ∷ ds) c b b' x y h h' e = absurd h
  data_same (container list ts) t' (f ∷ ds) c b b' x y h h' e = absurd h
  data_same (container map ts) t' (f ∷ ds) c b b' x y h h' e = absurd h
  data_same (container array ts) t' (f ∷ ds) c b b' x y h h' e = absurd h
  data_same (kept k) t' ds c b b' x y h h' e = absurd h
  data_same (barred r) t' ds c b b' x y h h' e = absurd h
  data_same (described d t) t' [] c b b' x y h h' e = absurd h
  data_same t t' ds c b b' x y h h' e = let s : sort_of t ≡ sort_of t' = one_sort t t' ds c b b' h h' in
      absurd (omega (arith, kind_least, kind_most))

  items_same : (ts ts' : Terms) → count ts ≡ count ts' → Same (AreItemsOf ts) (AreItemsOf ts') (ts ≡ ts')
  items_same none none n b b' x y h h' e = (h ∙ sym h', refl)
  items_same none (more t ts) n b b' x y h h' e = absurd (omega arith)
  items_same (more t ts) none n b b' x y h h' e = absurd (omega arith)
  items_same (more t ts) (more t' ts') n b b' x y h h' e =
      let r = joined_same (Spelled (IsDataOf t)) (Spelled (IsDataOf t')) (AreItemsOf ts) (AreItemsOf ts') (t ≡ t') (ts ≡ ts')
      (spelled_same (IsDataOf t) (IsDataOf t') (t ≡ t') (λ ds c. data_same t t' ds c)) (λ _. items_same ts ts' (suc_inj n)) b b' x y h h' e in
      (r.0, ap₂ more r.1.0 r.1.1)

  elements_same : (ts ts' : Terms) → count ts ≡ count ts' → One (AreElementsOf ts) (AreElementsOf ts') (ts ≡ ts')
  elements_same none none n b h h' = refl
  elements_same none (more t ts) n b h h' = absurd (omega arith)
  elements_same (more t ts) none n b h h' = absurd (omega arith)
  elements_same (more t ts) (more t' ts') n b h h' =
      let D : Term → Terms → List Descriptor → ℕ → List ℕ → Type 0 = λ t ts ds c d. (HasWidthZero (format c) → ⊥)
      × Joined (IsDataOf t ds c) (AreSharedDataOf ts ds c) d in
      let r = one (Spelled (D t ts)) (Spelled (D t' ts')) ((t ≡ t') × (ts ≡ ts'))
      (spelled_same (D t ts) (D t' ts') ((t ≡ t') × (ts ≡ ts')) (λ ds c b b' x y h h' e.
      joined_same (IsDataOf t ds c) (IsDataOf t' ds c) (AreSharedDataOf ts ds c) (AreSharedDataOf ts' ds c) (t ≡ t') (ts ≡ ts')
      (λ b b' x y h h' e. data_same t t' ds c b b' x y h h' e) (λ _. shared_same ts ts' (suc_inj n) ds c) b b' x y h.1 h'.1 e)) b h h' in
      ap₂ more r.0 r.1

  shared_same : (ts ts' : Terms) → count ts ≡ count ts' → (ds : List Descriptor) (c : ℕ)
      → Same (AreSharedDataOf ts ds c) (AreSharedDataOf ts' ds c) (ts ≡ ts')
  shared_same none none n ds c b b' x y h h' e = (h ∙ sym h', refl)
  shared_same none (more t ts) n ds c b b' x y h h' e = absurd (omega arith)
  shared_same (more t ts) none n ds c b b' x y h h' e = absurd (omega arith)
  shared_same (more t ts) (more t' ts') n ds c b b' x y h h' e =
      let r = joined_same (IsDataOf t ds c) (IsDataOf t' ds c) (AreSharedDataOf ts ds c) (AreSharedDataOf ts' ds c) (t ≡ t') (ts ≡ ts')
      (λ b b' x y h h' e. data_same t t' ds c b b' x y h h' e) (λ _. shared_same ts ts' (suc_inj n) ds c) b b' x y h h' e in
      (r.0, ap₂ more r.1.0 r.1.1)

-- two fronts of one input that are terms
pub fronts : (b b' x y : List ℕ) (t t' : Term) → IsSpelling b t → IsSpelling b' t' → b ++ x ≡ b' ++ y → (b ≡ b') × (t ≡ t')
unfolding IsSpelling
fronts b b' x y t t' h h' e = spelled_same (IsDataOf t) (IsDataOf t') (t ≡ t') (data_same t t') b b' x y h h' e

pub one_front : (b b' x y : List ℕ) (t t' : Term) → IsSpelling b t → IsSpelling b' t' → b ++ x ≡ b' ++ y → b ≡ b'
one_front b b' x y t t' h h' e = (fronts b b' x y t t' h h' e).0

pub one_term : (b b' x y : List ℕ) (t t' : Term) → IsSpelling b t → IsSpelling b' t' → b ++ x ≡ b' ++ y → t ≡ t'
one_term b b' x y t t' h h' e = (fronts b b' x y t t' h h' e).1

no_more : (front after : List ℕ) → front ++ after ≡ front → after ≡ []
no_more front after e = rest front front after [] refl (e ∙ sym (append-nil front))

-- a front of a spelling that is one itself is the whole
pub cut : (front after : List ℕ) (t t' : Term) → IsSpelling (front ++ after) t → IsSpelling front t' → after ≡ []
cut front after t t' h h' =
    let whole : front ++ after ≡ front = one_front (front ++ after) front [] after t t' h h' (append-nil (front ++ after)) in
    no_more front after whole
