-- The canonical text of a term spells what it reads as.
use Rattle.std.proofs.Common.{◌≡◌, ℕ, ◌+◌, ◌%◌, ◌^◌, ◌<◌, ◌≤◌, inl, inr, List, [], ◌∷◌, ◌++◌, length, refl, sym, ap, ◌∙◌, subst, arith, suc}
use Rattle.std.proofs.Common.{Some, append_assoc, le_trans}
use Rattle.std.proofs.lemmas.List.{length-append}
use Rattle.amqp_model.specs.Term.{Container, list, map, array, Term, Terms, leaf, container, described, kept, barred, none, more}
use Rattle.amqp_model.specs.Term.{Descriptor, count}
use Rattle.amqp_model.specs.Constructors.{Format, fixed, variable, compound, unknown, format}
use Rattle.amqp_model.specs.Spelling.{Joined, PrimitiveData, ContainerData, IsKnown, descriptor_value, Constructor, Spelled, IsDataOf}
use Rattle.amqp_model.specs.Spelling.{AreItemsOf, AreElementsOf, AreSharedDataOf, IsSpelling}
use Rattle.amqp_model.specs.Text.{Alone, First, Later, wide, shortest, spell, short_code, wide_code, size_and_count, compact_head, head}
use Rattle.amqp_model.specs.Text.{content_of, form, text, texts}
use Rattle.amqp_model.specs.Measures.{nest, nests, array_nest}
use Rattle.amqp_model.specs.Ranges.{Everywhere, EverywhereIn}
use Rattle.amqp_model.specs.Kept.{ExpandsTo, EachExpandsTo}
use Rattle.amqp_model.proofs.Lengths.{spelling_length, compact_cases}
use Rattle.amqp_model.proofs.Primitives.{wide_spelling, shortest_spelling}
use Rattle.amqp_model.proofs.Forms.{Form, HaveForm, Good, names, primitive_known, under, opening, opening_spelled, first_text, form_width}
use Rattle.amqp_model.proofs.Forms.{data_length, primitive_form_at, container_form_at}

pub container_known : (F : Format) (k : Container) (n : ℕ) (C : List ℕ → Type 0) (b : List ℕ) → ContainerData F k n C b → IsKnown F
container_known (fixed w v) k n C b h = tt
container_known (variable w v) k n C b h = tt
container_known (compound k' w) k n C b h = tt
container_known unknown k n C b h = absurd h

pub wide_data : (k : Container) (n : ℕ) (C : List ℕ → Type 0) (content : List ℕ) → C content → n ≤ length content
    → 4 + length content < 2 ^ 32 → ContainerData (format (wide_code k)) k n C (head Later k n (length content) ++ content)
wide_data list n C content c few fits = (refl, 4 + length content, content, inl refl, c, fits, omega arith, refl)
wide_data map n C content c few fits = (refl, 4 + length content, content, inl refl, c, fits, omega arith, refl)
wide_data array n C content c few fits = (refl, 4 + length content, content, inl refl, c, fits, omega arith, refl)

pub short_data : (k : Container) (n : ℕ) (C : List ℕ → Type 0) (content : List ℕ) → C content → n ≤ length content
    → 1 + length content < 256 → ContainerData (format (short_code k)) k n C (size_and_count 1 n (length content) ++ content)
short_data list n C content c few fits = (refl, 1 + length content, content, inl refl, c, fits, omega arith, refl)
short_data map n C content c few fits = (refl, 1 + length content, content, inl refl, c, fits, omega arith, refl)
short_data array n C content c few fits = (refl, 1 + length content, content, inl refl, c, fits, omega arith, refl)

-- a code, and then data of a container
unfoldable pub IsContainerText : Container → ℕ → (List ℕ → Type 0) → List ℕ → Type 0
IsContainerText k n C b = (c : ℕ) × (d : List ℕ) × (b ≡ c ∷ d) × ContainerData (format c) k n C d

pub compact_container : (k : Container) (n : ℕ) (C : List ℕ → Type 0) (content : List ℕ) → C content → n ≤ length content
    → 4 + length content < 2 ^ 32 → IsContainerText k n C (compact_head k n (length content) ++ content)
unfolding IsContainerText
compact_container k n C content c few fits =
    compact_cases k n (length content) (λ h. IsContainerText k n C (h ++ content))
    (λ e _. (short_code k, size_and_count 1 n (length content) ++ content, refl, short_data k n C content c few (omega arith)))
    (λ _. (wide_code k, head Later k n (length content) ++ content, refl, wide_data k n C content c few fits))

-- the text of u is a constructor and data of t
Opens : Term → Term → Type 0
Opens u t = (ds : List Descriptor) × (c : ℕ) × Joined (Constructor ds c) (IsDataOf t ds c) (text u Alone)

-- a term nests at least as deep as it has descriptors
pub descriptors_nest : (t : Term) (ds : List Descriptor) (c : ℕ) (b : List ℕ) → IsDataOf t ds c b → length ds ≤ nest t
descriptors_nest t [] c b h = omega arith
descriptors_nest (leaf p) (d ∷ ds) c b h = absurd h
descriptors_nest (container list ts) (d ∷ ds) c b h = absurd h
descriptors_nest (container map ts) (d ∷ ds) c b h = absurd h
descriptors_nest (container array ts) (d ∷ ds) c b h = absurd h
descriptors_nest (described e t) (d ∷ ds) c b h = omega (arith, descriptors_nest t ds c b h.1)
descriptors_nest (kept b') (d ∷ ds) c b h = absurd h
descriptors_nest (barred r) (d ∷ ds) c b h = absurd h

bare_opens : (u t : Term) (c : ℕ) (d : List ℕ) → text u Alone ≡ c ∷ d → IsKnown (format c) → IsDataOf t [] c d → Opens u t
unfolding Opens
bare_opens u t c d e known h = ([], c, (c ∷ [], d, e, (refl, known), h))

container_opens : (u t : Term) (k : Container) (n : ℕ) (C : List ℕ → Type 0)
    → ((c : ℕ) (d : List ℕ) → ContainerData (format c) k n C d → IsDataOf t [] c d) → IsContainerText k n C (text u Alone) → Opens u t
unfolding IsContainerText
container_opens u t k n C is (c, d, e, h) = bare_opens u t c d e (container_known (format c) k n C d h) (is c d h)

described_opens : (d e : Descriptor) (u t : Term) → d ≡ e → Good (described d u) → Opens u t → Opens (described d u) (described e t)
unfolding Opens text
described_opens d e u t same g (ds, c, (first, second, s, k, h)) =
    let name_ = spell (shortest (descriptor_value d)) in (
      d ∷ ds,
      c,
      (
        0 ∷ (name_ ++ first),
        second,
        ap (λ l. 0 ∷ l) (ap (λ l. name_ ++ l) s ∙ sym (append_assoc name_ first second)),
        (name_, first, refl, names d g.0.0 g.0.1, k),
        (sym same, h),
      ),
    )

kept_opens : (b : List ℕ) (t : Term) → IsSpelling b t → Opens (kept b) t
unfolding Opens text IsSpelling
kept_opens b t (ds, c, few, h) = (ds, c, h)

opens_spelled : (u t : Term) → nest t ≤ 128 → Opens u t → Spelled (IsDataOf t) (text u Alone)
unfolding Opens
opens_spelled u t n (ds, c, (first, second, e, k, h)) = (ds, c, le_trans (descriptors_nest t ds c second h) n, (first, second, e, k, h))

-- each item has a byte
compact_length : (k : Container) (n : ℕ) (content : List ℕ) → 1 ≤ length (compact_head k n (length content) ++ content)
compact_length k n content = compact_cases k n (length content) (λ h. 1 ≤ length (h ++ content)) (λ _ _. omega arith) (λ _. omega arith)

pub text_length : (u t : Term) → Everywhere Good u → ExpandsTo u t → 1 ≤ length (text u Alone)
unfolding text
text_length (leaf p) t g h = omega arith
text_length (container list none) t g h = omega arith
text_length (container list (more u us)) t g h = compact_length list (count (more u us)) (texts (more u us) Alone)
text_length (container map us) t g h = compact_length map (count us) (texts us Alone)
text_length (container array us) t g h = compact_length array (count us) (content_of array (count us) (texts us First))
text_length (described d u) t g h = omega arith
text_length (kept b) t g h = spelling_length b t h
text_length (barred r) t g h = absurd g.0

pub texts_length : (us ts : Terms) → EverywhereIn Good us → EachExpandsTo us ts → count us ≤ length (texts us Alone)
unfolding text texts
texts_length none ts g h = omega arith
texts_length (more u us) none g h = absurd h
texts_length (more u us) (more t ts) g h =
    omega (arith, length-append (text u Alone) (texts us Alone), text_length u t g.0 h.0, texts_length us ts g.1 h.1)

pub data_texts_length : (us : Terms) (f : Form) → EverywhereIn Good us → HaveForm f us → count us ≤ length (texts us Later)
unfolding text texts
data_texts_length none f g e = omega arith
data_texts_length (more u us) f g e =
    omega (arith, length-append (text u Later) (texts us Later), data_length u f e.0 g.0, data_texts_length us f g.1 e.1)

pub elements_length : (us : Terms) (f : Form) → EverywhereIn Good us → HaveForm f us
    → count us ≤ length (content_of array (count us) (texts us First))
unfolding text texts
elements_length none f g e = omega arith
elements_length (more u us) f g e =
    omega (
      arith,
      ap length (first_text u f e.0),
      length-append (opening f.0 f.1) (text u Later),
      length-append (text u First) (texts us Later),
      data_length u f e.0 g.0,
      data_texts_length us f g.1 e.1,
    )

pub same_count : (us ts : Terms) → EachExpandsTo us ts → count us ≡ count ts
same_count none none h = refl
same_count none (more t ts) h = absurd h
same_count (more u us) none h = absurd h
same_count (more u us) (more t ts) h = ap suc (same_count us ts h.1)

pub nests_least : (ts : Terms) → nests ts ≤ array_nest ts
nests_least none = omega arith
nests_least (more (leaf p) ts) = omega (arith, nests_least ts)
nests_least (more (container list us) ts) = omega arith
nests_least (more (container map us) ts) = omega arith
nests_least (more (container array us) ts) = omega arith
nests_least (more (described d t) ts) = omega arith
nests_least (more (kept b) ts) = omega (arith, nests_least ts)
nests_least (more (barred r) ts) = omega (arith, nests_least ts)

mutual
  unfolding text texts IsSpelling

  text_opens : (u t : Term) → Everywhere Good u → ExpandsTo u t → nest t ≤ 128 → Opens u t
  text_opens (leaf p) (leaf q) g r n =
      let h = shortest_spelling p g.0.0 g.0.1 in
      bare_opens (leaf p) (leaf q) (shortest p).0 (shortest p).1 refl (primitive_known (format (shortest p).0) p (shortest p).1 h)
      (subst (λ z. PrimitiveData (format (shortest p).0) z (shortest p).1) r h)
  text_opens (container list none) (container list none) g r n =
      bare_opens (container list none) (container list none) 0x45 [] refl tt (refl, 0, [], inl refl, refl, omega arith, omega arith, refl)
  text_opens (container list (more u us)) (container list (more t ts)) g r n =
      let content = texts (more u us) Alone in
      container_opens (container list (more u us)) (container list (more t ts)) list (count (more u us)) (AreItemsOf (more t ts))
      (λ c d h. subst (λ z. ContainerData (format c) list z (AreItemsOf (more t ts)) d) (same_count (more u us) (more t ts) r.1) h)
      (compact_container list (count (more u us)) (AreItemsOf (more t ts)) content
      (texts_spelled (more u us) (more t ts) g.1 r.1 (omega arith)) (texts_length (more u us) (more t ts) g.1 r.1) g.0.1)
  text_opens (container map us) (container map ts) g r n =
      let even : count ts % 2 ≡ 0 = subst (λ z. z % 2 ≡ 0) (same_count us ts r.1) g.0.0 in
      container_opens (container map us) (container map ts) map (count us) (AreItemsOf ts)
      (λ c d h. (even, subst (λ z. ContainerData (format c) map z (AreItemsOf ts) d) (same_count us ts r.1) h))
      (compact_container map (count us) (AreItemsOf ts) (texts us Alone) (texts_spelled us ts g.1 r.1 (omega arith))
      (texts_length us ts g.1 r.1) g.0.1)
  text_opens (container array us) (container array ts) g r n =
      container_opens (container array us) (container array ts) array (count us) (AreElementsOf ts)
      (λ c d h. subst (λ z. ContainerData (format c) array z (AreElementsOf ts) d) (same_count us ts r.1) h)
      (compact_container array (count us) (AreElementsOf ts) (content_of array (count us) (texts us First))
      (elements_spelled us ts g.0.0.0 g.1 r.1 g.0.0.1 n) (elements_length us g.0.0.0 g.1 g.0.0.1) g.0.1)
  text_opens (described d u) (described e t) g r n = described_opens d e u t r.0 g.0 (text_opens u t g.1 r.1 (omega arith))
  text_opens (kept b) t g r n = kept_opens b t r
  text_opens (barred s) t g r n = absurd g.0
  text_opens u t g r n = let no_way : ⊥ = grind arith in absurd no_way

  pub texts_spelled : (us ts : Terms) → EverywhereIn Good us → EachExpandsTo us ts → nests ts ≤ 128 → AreItemsOf ts (texts us Alone)
  texts_spelled none none g r n = refl
  texts_spelled none (more t ts) g r n = absurd r
  texts_spelled (more u us) none g r n = absurd r
  texts_spelled (more u us) (more t ts) g r n = (
    text u Alone,
    texts us Alone,
    refl,
    opens_spelled u t (omega arith) (text_opens u t g.0 r.0 (omega arith)),
    texts_spelled us ts g.1 r.1 (omega arith),
  )

  pub data_spelled : (u t : Term) (f : Form) → Everywhere Good u → ExpandsTo u t → form u ≡ Some f → nest t ≤ 128
      → IsDataOf t f.0 f.1 (text u Later)
  data_spelled (leaf p) (leaf q) f g r e n =
      primitive_form_at (λ f. IsDataOf (leaf q) f.0 f.1 (wide p).1) p f e
      (subst (λ z. PrimitiveData (format (wide p).0) z (wide p).1) r (wide_spelling p g.0.0 g.0.1))
  data_spelled (container list us) (container list ts) f g r e n =
      let b = text (container list us) Later in
      container_form_at (λ f. IsDataOf (container list ts) f.0 f.1 b) list us f e
      (subst (λ z. ContainerData (format 0xd0) list z (AreItemsOf ts) b) (same_count us ts r.1)
      (wide_data list (count us) (AreItemsOf ts) (texts us Alone) (texts_spelled us ts g.1 r.1 (omega arith))
      (texts_length us ts g.1 r.1) g.0.1))
  data_spelled (container map us) (container map ts) f g r e n =
      let b = text (container map us) Later in
      container_form_at (λ f. IsDataOf (container map ts) f.0 f.1 b) map us f e (
        subst (λ z. z % 2 ≡ 0) (same_count us ts r.1) g.0.0,
        subst (λ z. ContainerData (format 0xd1) map z (AreItemsOf ts) b) (same_count us ts r.1)
            (wide_data map (count us) (AreItemsOf ts) (texts us Alone) (texts_spelled us ts g.1 r.1 (omega arith))
            (texts_length us ts g.1 r.1) g.0.1),
      )
  data_spelled (container array us) (container array ts) f g r e n =
      let b = text (container array us) Later in
      container_form_at (λ f. IsDataOf (container array ts) f.0 f.1 b) array us f e
      (subst (λ z. ContainerData (format 0xf0) array z (AreElementsOf ts) b) (same_count us ts r.1)
      (wide_data array (count us) (AreElementsOf ts) (content_of array (count us) (texts us First))
      (elements_spelled us ts g.0.0.0 g.1 r.1 g.0.0.1 n) (elements_length us g.0.0.0 g.1 g.0.0.1) g.0.1))
  data_spelled (described d u) (described d' t) f g r e n =
      let i = under d (form u) f e in
      subst (λ f. IsDataOf (described d' t) f.0 f.1 (text u Later)) i.2 (sym r.0, data_spelled u t i.0 g.1 r.1 i.1 (omega arith))
  data_spelled (kept b) t f g r e n = cc
  data_spelled (barred s) t f g r e n = cc
  data_spelled u t f g r e n = let no_way : ⊥ = grind arith in absurd no_way

  pub shared_spelled : (us ts : Terms) (f : Form) → EverywhereIn Good us → EachExpandsTo us ts → HaveForm f us → nests ts ≤ 128
      → AreSharedDataOf ts f.0 f.1 (texts us Later)
  shared_spelled none none f g r e n = refl
  shared_spelled none (more t ts) f g r e n = absurd r
  shared_spelled (more u us) none f g r e n = absurd r
  shared_spelled (more u us) (more t ts) f g r e n =
      (text u Later, texts us Later, refl, data_spelled u t f g.0 r.0 e.0 (omega arith), shared_spelled us ts f g.1 r.1 e.1 (omega arith))

  pub elements_spelled : (us ts : Terms) (f : Form) → EverywhereIn Good us → EachExpandsTo us ts → HaveForm f us → array_nest ts ≤ 128
      → AreElementsOf ts (content_of array (count us) (texts us First))
  elements_spelled none none f g r e n = inr ([], 0x40, omega arith, (0x40 ∷ [], [], refl, (refl, tt), refl))
  elements_spelled none (more t ts) f g r e n = absurd r
  elements_spelled (more u us) none f g r e n = absurd r
  elements_spelled (more u us) (more t ts) f g r e n =
      let a : nests (more t ts) ≤ 128 = le_trans (nests_least (more t ts)) n in
      let first = data_spelled u t f g.0 r.0 e.0 (omega arith) in (
        f.0,
        f.1,
        omega (arith, descriptors_nest t f.0 f.1 (text u Later) first),
        (
          opening f.0 f.1,
          text u Later ++ texts us Later,
          ap (λ l. l ++ texts us Later) (first_text u f e.0) ∙ append_assoc (opening f.0 f.1) (text u Later) (texts us Later),
          opening_spelled u f e.0 g.0,
          (
            form_width u f e.0,
            (text u Later, texts us Later, refl, first, shared_spelled us ts f g.1 r.1 e.1 (omega arith)),
          ),
        ),
      )

pub text_spells : (u t : Term) → Everywhere Good u → ExpandsTo u t → nest t ≤ 128 → IsSpelling (text u Alone) t
unfolding IsSpelling
text_spells u t g r n = opens_spelled u t n (text_opens u t g r n)
