-- The parts of a container that stands somewhere, and of one that stands canonically.
use Rattle.std.proofs.Common.{◌≡◌, inl, inr, ℕ, ◌+◌, ◌≤◌, ◌<◌, ◌^◌, List, [], ◌∷◌, ◌++◌, length, Some, refl, sym, ap, ◌∙◌, subst, arith}
use Rattle.std.proofs.Common.{append_assoc, le_of_suc-le-suc, lt_of_not-le}
use Rattle.amqp_model.specs.Term.{Refusal, depth, Container, list, map, array, Descriptor, Term, Terms, container, none, more, count}
use Rattle.amqp_model.specs.Constructors.{Format, fixed, variable, compound, unknown, format}
use Rattle.amqp_model.specs.Spelling.{Names, IsValid, descriptor_value, ContainerData, Constructor, IsDataOf, AreItemsOf}
use Rattle.amqp_model.specs.Spelling.{AreElementsOf}
use Rattle.amqp_model.specs.Spelling.{AreSharedDataOf, IsSpelling}
use Rattle.amqp_model.specs.Standing.{Standing, whole, part, StandWhole, StandAsData, StandInArray, StandIn, Parts}
use Rattle.amqp_model.specs.Text.{Alone, First, Later, text, texts, form, compact_head, content_of, wide_code, first_place}
use Rattle.amqp_model.specs.Measures.{nests}
use Rattle.amqp_model.specs.Ranges.{Everywhere, EverywhereIn, IsValue}
use Rattle.amqp_model.specs.Refusals.{SomewhereIn, IsRefused, Refuses}
use Rattle.amqp_model.specs.Kept.{EachExpandsTo}
use Rattle.amqp_model.proofs.Forms.{Form, HaveForm, Good, container_form_at, opening, opening_spelled, first_text}
use Rattle.amqp_model.proofs.Written.{IsContainerText, container_known, wide_data, compact_container, descriptors_nest, texts_length}
use Rattle.amqp_model.proofs.Written.{elements_length, data_spelled, same_count, nests_least}
use Rattle.amqp_model.proofs.Unrefused.{unrefused_safe, unrefused_spells, safe_is_good}
use Rattle.amqp_codec.specs.TermType.{AreNamed, Spells, StandsCanonically, IsUnrefused}
use Rattle.amqp_codec.specs.laws.PrimitiveTerm.{data_valid}
use Rattle.amqp_codec.specs.Each.{EachSpells, EachCanonical, AreParts, Share}

container_placed : (F : Format) (k : Container) (n : ℕ) (C : List ℕ → Type 0) (D : List Standing → List ℕ → Type 0)
    (E : List Standing → Type 0) (b : List ℕ) → ((content : List ℕ) → C content → (ss : List Standing) × D ss content × E ss)
    → ContainerData F k n C b → (ss : List Standing) × ContainerData F k n (D ss) b × E ss
container_placed (compound k' w) k n C D E b f (is, size, content, sized, c, fits, few, e) =
    let x = f content c in (x.0, (is, size, content, sized, x.1, fits, few, e), x.2)
container_placed (fixed w v) k n C D E b f h = absurd h
container_placed (variable w v) k n C D E b f h = absurd h
container_placed unknown k n C D E b f h = absurd h

list_placed : (ts : Terms) (b : List ℕ) → AreItemsOf ts b → (ss : List Standing) × StandWhole ts ss b × (EachSpells ss ts × Share list ss)
unfolding IsSpelling
list_placed none b h = ([], (h, refl), (tt, tt))
list_placed (more t ts) b (first, second, e, s, rest) =
    let r = list_placed ts second rest in (whole first ∷ r.0, (first, second, r.0, e, s, r.1, refl), ((s, r.2.0), tt))

pub names_valid : (d : Descriptor) (b : List ℕ) → Names d b → IsValid (descriptor_value d)
names_valid d b (c, x, e, h) = data_valid (format c) (descriptor_value d) x h

constructor_named : (ds : List Descriptor) (c : ℕ) (b : List ℕ) → Constructor ds c b → AreNamed ds
constructor_named [] c b h = tt
constructor_named (d ∷ ds) c b (first, second, e, n, h) = (names_valid d first n, constructor_named ds c second h)

data_placed : (ts : Terms) (ds : List Descriptor) (c : ℕ) (b : List ℕ) → AreNamed ds → AreSharedDataOf ts ds c b
    → (ss : List Standing) × StandAsData ts ss ds c b × EachSpells ss ts × AreParts ds c ss
data_placed none ds c b n h = ([], (h, refl), tt, tt)
data_placed (more t ts) ds c b n (first, second, e, s, rest) =
    let r = data_placed ts ds c second n rest in
    (part ds c first ∷ r.0, (first, second, r.0, e, s, r.1, refl), ((n, s), r.2), ((first, refl), r.3))

array_placed : (ts : Terms) (b : List ℕ) → AreElementsOf ts b
    → (ss : List Standing) × StandInArray ts ss b × (EachSpells ss ts × Share array ss)
array_placed none b h = ([], refl, (tt, ([], 0x70, tt, λ h. h)))
array_placed (more t ts) b (ds, c, few, (first, second, e, k, (wide, (x, y, e', s, rest)))) =
    let n = constructor_named ds c first k in
    let r = data_placed ts ds c y n rest in (
      part ds c x ∷ r.0,
      (ds, c, few, (first, second, e, k, (x, y, r.0, e', s, r.1, refl))),
      (((n, s), r.2), (ds, c, ((x, refl), r.3), wide)),
    )

items_placed : (k : Container) (ts : Terms) (ds : List Descriptor) (c : ℕ) (b : List ℕ)
    → IsDataOf (container k ts) ds c b → (ss : List Standing) × StandIn (container k ts) ss ds c b × (EachSpells ss ts × Share k ss)
items_placed list ts [] c b h =
    container_placed (format c) list (count ts) (AreItemsOf ts) (StandWhole ts) (λ ss. EachSpells ss ts × Share list ss) b (list_placed ts) h
items_placed list ts (e ∷ ds) c b h = absurd h
items_placed array ts [] c b h =
    container_placed (format c) array (count ts) (AreElementsOf ts) (StandInArray ts) (λ ss. EachSpells ss ts × Share array ss) b
    (array_placed ts) h
items_placed array ts (e ∷ ds) c b h = absurd h
items_placed map ts [] c b h =
    container_placed (format c) map (count ts) (AreItemsOf ts) (StandWhole ts) (λ ss. EachSpells ss ts × Share map ss) b (list_placed ts) h.1
items_placed map ts (e ∷ ds) c b h = absurd h

-- the parts of what stands somewhere
pub placed : (k : Container) (s : Standing) (ts : Terms) → Spells s (container k ts)
    → (ss : List Standing) × Parts s (container k ts) ss × (EachSpells ss ts × Share k ss)
unfolding IsSpelling
placed k (whole b) ts (ds, c, few, (first, second, e, l, d)) =
    let r = items_placed k ts ds c second d in (r.0, (ds, c, few, (first, second, e, l, r.1)), r.2)
placed k (part ds c b) ts d = items_placed k ts ds c b d.1

-- none of the terms is refused, and they read as no terms that nest too deep
abbrev AreUnrefused : Terms → Type 0
AreUnrefused us =
    ((r : Refusal) → SomewhereIn (IsRefused r) us → ⊥) × ((ts : Terms) → EachExpandsTo us ts → 128 < nests ts → ⊥)

first_unrefused : (u t : Term) (us ts : Terms) → AreUnrefused (more u us) → EachExpandsTo (more u us) (more t ts) → IsUnrefused u
unfolding Refuses
first_unrefused u t us ts f h r (inl i) = f.0 r (inl i)
first_unrefused u t us ts f h r (inr (e, (x, k, l))) = f.1 (more x ts) (k, h.1) (omega (arith, l))

others_unrefused : (u t : Term) (us ts : Terms) → AreUnrefused (more u us) → EachExpandsTo (more u us) (more t ts) → AreUnrefused us
others_unrefused u t us ts f h = (λ r i. f.0 r (inr i), λ xs k l. f.1 (more t xs) (h.0, k) (omega (arith, l)))

shallow : (us ts : Terms) → AreUnrefused us → EachExpandsTo us ts → nests ts ≤ 128
shallow us ts f r = le_of_suc-le-suc (lt_of_not-le (λ l. f.1 ts r l))

list_canonical : (us ts : Terms) → EverywhereIn IsValue us → AreUnrefused us → EachExpandsTo us ts
    → (ss : List Standing) × StandWhole ts ss (texts us Alone) × EachCanonical ss us
unfolding texts
list_canonical none none v f r = ([], (refl, refl), tt)
list_canonical none (more t ts) v f r = absurd r
list_canonical (more u us) none v f r = absurd r
list_canonical (more u us) (more t ts) v f r =
    let g = first_unrefused u t us ts f r in
    let x = list_canonical us ts v.1 (others_unrefused u t us ts f r) r.1 in (
      whole (text u Alone) ∷ x.0,
      (text u Alone, texts us Alone, x.0, refl, unrefused_spells u t g v.0 r.0, x.1, refl),
      ((g, refl), x.2),
    )

data_canonical : (us ts : Terms) (f : Form) → EverywhereIn Good us → HaveForm f us → AreUnrefused us → EachExpandsTo us ts
    → (ss : List Standing) × StandAsData ts ss f.0 f.1 (texts us Later) × EachCanonical ss us
unfolding texts
data_canonical none none f g e h r = ([], (refl, refl), tt)
data_canonical none (more t ts) f g e h r = absurd r
data_canonical (more u us) none f g e h r = absurd r
data_canonical (more u us) (more t ts) f g e h r =
    let n = shallow (more u us) (more t ts) h r in
    let x = data_canonical us ts f g.1 e.1 (others_unrefused u t us ts h r) r.1 in (
      part f.0 f.1 (text u Later) ∷ x.0,
      (text u Later, texts us Later, x.0, refl, data_spelled u t f g.0 r.0 e.0 (omega (arith, n)), x.1, refl),
      ((first_unrefused u t us ts h r, (e.0, refl)), x.2),
    )

array_canonical : (us ts : Terms) (f : Form) → EverywhereIn Good us → HaveForm f us → AreUnrefused us → EachExpandsTo us ts
    → (ss : List Standing) × StandInArray ts ss (content_of array (count us) (texts us First)) × EachCanonical ss us
unfolding texts
array_canonical none none f g e h r = ([], refl, tt)
array_canonical none (more t ts) f g e h r = absurd r
array_canonical (more u us) none f g e h r = absurd r
array_canonical (more u us) (more t ts) f g e h r =
    let n = shallow (more u us) (more t ts) h r in
    let first = data_spelled u t f g.0 r.0 e.0 (omega (arith, n)) in
    let x = data_canonical us ts f g.1 e.1 (others_unrefused u t us ts h r) r.1 in (
      part f.0 f.1 (text u Later) ∷ x.0,
      (
        f.0,
        f.1,
        omega (arith, descriptors_nest t f.0 f.1 (text u Later) first, n),
        (
          opening f.0 f.1,
          text u Later ++ texts us Later,
          ap (λ l. l ++ texts us Later) (first_text u f e.0) ∙ append_assoc (opening f.0 f.1) (text u Later) (texts us Later),
          opening_spelled u f e.0 g.0,
          (text u Later, texts us Later, x.0, refl, first, x.1, refl),
        ),
      ),
      ((first_unrefused u t us ts h r, (e.0, refl)), x.2),
    )

-- the content of a container, whose items stand so
abbrev Content : Container → Terms → List Standing → List ℕ → Type 0
Content list ts ss b = StandWhole ts ss b
Content map ts ss b = StandWhole ts ss b
Content array ts ss b = StandInArray ts ss b

stand_in : (k : Container) (ts : Terms) (ss : List Standing) (ds : List Descriptor) (c : ℕ) (b : List ℕ)
    → ContainerData (format c) k (count ts) (Content k ts ss) b → StandIn (container k ts) ss ds c b
stand_in list ts ss ds c b h = h
stand_in map ts ss ds c b h = h
stand_in array ts ss ds c b h = h

abbrev content : Container → Terms → List ℕ
content k us = content_of k (count us) (texts us (first_place k))

-- what is canonical of a container
record Canonical (k : Container) (us ts : Terms) : Type 0 where
  standings : List Standing
  inner : Content k ts standings (content k us)
  each : EachCanonical standings us
  few : count us ≤ length (content k us)
  fits : 4 + length (content k us) < 2 ^ 32

parts_unrefused : (k : Container) (us : Terms) → IsUnrefused (container k us) → AreUnrefused us
unfolding Refuses
parts_unrefused list us f =
    (λ r i. f r (inl (inr i)), λ ts h l. f depth (inr (refl, (container list ts, (refl, h), omega (arith, l)))))
parts_unrefused map us f =
    (λ r i. f r (inl (inr i)), λ ts h l. f depth (inr (refl, (container map ts, (refl, h), omega (arith, l)))))
parts_unrefused array us f =
    (λ r i. f r (inl (inr i)), λ ts h l. f depth (inr (refl, (container array ts, (refl, h), omega (arith, l, nests_least ts)))))

canonical : (k : Container) (us ts : Terms) → Everywhere IsValue (container k us) → IsUnrefused (container k us) → EachExpandsTo us ts
    → Canonical k us ts
canonical list us ts v f r =
    let g = safe_is_good (container list us) v (unrefused_safe (container list us) f) in
    let x = list_canonical us ts v.1 (parts_unrefused list us f) r in
    record { standings = x.0; inner = x.1; each = x.2; few = texts_length us ts g.1 r; fits = g.0.1 }
canonical map us ts v f r =
    let g = safe_is_good (container map us) v (unrefused_safe (container map us) f) in
    let x = list_canonical us ts v.1 (parts_unrefused map us f) r in
    record { standings = x.0; inner = x.1; each = x.2; few = texts_length us ts g.1 r; fits = g.0.1 }
canonical array us ts v f r =
    let g = safe_is_good (container array us) v (unrefused_safe (container array us) f) in
    let x = array_canonical us ts g.0.0.0 g.1 g.0.0.1 (parts_unrefused array us f) r in
    record { standings = x.0; inner = x.1; each = x.2; few = elements_length us g.0.0.0 g.1 g.0.0.1; fits = g.0.1 }

spelled_parts : (k : Container) (us ts : Terms) (b : List ℕ) (x : Canonical k us ts) → count us ≡ count ts
    → IsContainerText k (count us) (Content k ts x.standings) b → Parts (whole b) (container k ts) x.standings
unfolding IsContainerText
spelled_parts k us ts b x same (c, d, e, h) = (
  [],
  c,
  omega arith,
  (
    c ∷ [],
    d,
    e,
    (refl, container_known (format c) k (count us) (Content k ts x.standings) d h),
    stand_in k ts x.standings [] c d (subst (λ n. ContainerData (format c) k n (Content k ts x.standings) d) same h),
  ),
)

compact_parts : (k : Container) (us ts : Terms) (x : Canonical k us ts) → count us ≡ count ts
    → IsContainerText k (count us) (Content k ts x.standings) (compact_head k (count us) (length (content k us)) ++ content k us)
compact_parts k us ts x same = compact_container k (count us) (Content k ts x.standings) (content k us) x.inner x.few x.fits

whole_parts : (k : Container) (us ts : Terms) (x : Canonical k us ts) → count us ≡ count ts
    → Parts (whole (text (container k us) Alone)) (container k ts) x.standings
unfolding text texts
whole_parts list none none x same =
    ([], 0x45, omega arith, (0x45 ∷ [], [], refl, (refl, tt), (refl, 0, [], inl refl, x.inner, omega arith, omega arith, refl)))
whole_parts list none (more t ts) x same = absurd (omega (arith, same))
whole_parts list (more u us) ts x same = spelled_parts list (more u us) ts _ x same (compact_parts list (more u us) ts x same)
whole_parts map us ts x same = spelled_parts map us ts _ x same (compact_parts map us ts x same)
whole_parts array us ts x same = spelled_parts array us ts _ x same (compact_parts array us ts x same)

part_parts : (k : Container) (us ts : Terms) (f : Form) (x : Canonical k us ts) → count us ≡ count ts
    → form (container k us) ≡ Some f → StandIn (container k ts) x.standings f.0 f.1 (text (container k us) Later)
unfolding text
part_parts k us ts f x same e =
    container_form_at (λ f. StandIn (container k ts) x.standings f.0 f.1 (text (container k us) Later)) k us f e
    (stand_in k ts x.standings [] (wide_code k) (text (container k us) Later)
    (subst (λ n. ContainerData (format (wide_code k)) k n (Content k ts x.standings) (text (container k us) Later)) same
    (wide_data k (count us) (Content k ts x.standings) (content k us) x.inner x.few x.fits)))

-- the parts of what stands canonically do so
pub canonical_parts : (k : Container) (s : Standing) (us ts : Terms) → Everywhere IsValue (container k us)
    → IsUnrefused (container k us) → StandsCanonically s (container k us) → EachExpandsTo us ts
    → (ss : List Standing) × Parts s (container k ts) ss × EachCanonical ss us
canonical_parts k (whole b) us ts v f e r =
    let x = canonical k us ts v f r in (
      x.standings,
      subst (λ b. Parts (whole b) (container k ts) x.standings) (sym e) (whole_parts k us ts x (same_count us ts r)),
      x.each,
    )
canonical_parts k (part ds c b) us ts v f e r =
    let x = canonical k us ts v f r in (
      x.standings,
      subst (λ b. Parts (part ds c b) (container k ts) x.standings) (sym e.1)
          (part_parts k us ts (ds, c) x (same_count us ts r) e.0),
      x.each,
    )
