-- What terms hold, from what their parts do.
use Rattle.std.proofs.Common.{◌≡◌, ℕ, suc, ◌+◌, ◌*◌, ◌<◌, ◌≤◌, ◌^◌, max, Bool, true, false, cond, List, [], ◌∷◌, ◌++◌, length, take, drop}
use Rattle.std.proofs.Common.{refl, sym, ap, ◌∙◌, subst, arith, append-nil, drop-drop}
use Rattle.std.proofs.Math.Nat.{mul-add}
use Rattle.std.proofs.lemmas.List.{take-append-drop, length-drop, length-append, length-take-le, take_all}
use Rattle.std.proofs.Math.Seq.{drop-append_seam}
use Rattle.std.specs.Cmp.{ranks}
use Rattle.std.specs.Ordering.{is_lt, nat_cmp, ord_max, MatchOrdering}
use Rattle.std.specs.declared.cmp.Ordering.{Ordering}
use Rattle.std.specs.declared.cmp.Ordering.TheVariants.{Less, Equal, Greater}
use Rattle.amqp_wire.specs.declared.error.Error.{Error}
use Rattle.amqp_model.specs.Term.{Primitive, Container, list, map, array, Term, Terms, leaf, container, described, kept, barred, none, more}
use Rattle.amqp_model.specs.Term.{Descriptor, count}
use Rattle.amqp_model.specs.Constructors.{compound, format}
use Rattle.amqp_model.specs.Spelling.{Joined, PrimitiveData, ContainerData, Constructor, IsDataOf, AreItemsOf, AreElementsOf}
use Rattle.amqp_model.specs.Spelling.{AreSharedDataOf, IsSpelling}
use Rattle.amqp_model.specs.Measures.{nest, nests, array_nest, nodes, all_nodes, share, shares, is_sharing, weight, weights}
use Rattle.amqp_model.proofs.Count.{nodes_bounded}
use Rattle.amqp_model.proofs.Same.{container_same, primitive_same}
use Rattle.amqp_model.proofs.Unique.{one_front}
use Rattle.amqp_lengths.specs.Fronts.{IsFront, Refuses}
use Rattle.amqp_lengths.specs.Pieces.{IsPrimitive, PrimitiveOf}
use Rattle.amqp_lengths.specs.Contents.{IsContent, HasContent}
use Rattle.amqp_lengths.specs.Lengths.{Constructs, HasConstructor, IsTerm, levels_of}
use Rattle.amqp_lengths.specs.Measured.{IsMeasured, capped, Begins, AllMeasured, Fits, Measurable, AllMeasurable, contents, content_nest}
use Rattle.amqp_lengths.proofs.Codes.{container_at}
use Rattle.amqp_lengths.proofs.Terms.{behind_constructor, constructs_known, term_unbegun}
use Rattle.amqp_lengths.proofs.Containers.{no_container}
use Rattle.amqp_lengths.proofs.Elements.{IsLevel, level, elements_behind, elements_some, elements_unbegun}

abbrev pub Whole : Term → List ℕ → Type 0
Whole t b = IsSpelling b t

abbrev pub Data : ℕ → Term → List ℕ → Type 0
Data c t b = IsDataOf t [] c b

abbrev pub Items : ℕ → Terms → List ℕ → Type 0
Items c ts b = AreSharedDataOf ts [] c b

-- the first of some items, and the others
pub terms_joined : (t : Term) (us : Terms) (b : List ℕ) → AreItemsOf (more t us) b → Joined (Whole t) (AreItemsOf us) b
unfolding IsSpelling
terms_joined t us b h = h

pub items_joined : (c : ℕ) (t : Term) (us : Terms) (b : List ℕ) → Items c (more t us) b → Joined (Data c t) (Items c us) b
items_joined c t us b h = h

greater_at : (r : Ordering) (a b : ℕ) → MatchOrdering r (b < a) (b ≡ a) (a < b) → cond (is_lt r) a b ≡ max a b
greater_at Less a b h = omega (arith, h)
greater_at Equal a b h = omega (arith, h)
greater_at Greater a b h = omega (arith, h)

-- a capped sum takes one more number
capped_more : (w v x y : ℕ) → capped x ≡ v → capped (capped (w + v) + y) ≡ capped (w + (x + y))
capped_more w v x y e = omega (arith, e)

-- the code's greater of two numbers
pub greater : (a b : ℕ) → ord_max nat_cmp a b ≡ max a b
greater a b = greater_at (nat_cmp b a) a b (ranks b a)

-- What is measured is within the input, and fits.
pub begins_within : (Is : Term → List ℕ → Type 0) (input : List ℕ) (len n k w : ℕ) → Measurable Is input → Begins Is input len n k w
    → (len ≤ length input) × Fits n k
begins_within Is input len n k w (t, front, after, is, s, (few, low)) h =
    let (a, b, c, _) = h t front after is s in
    (omega (arith, a, ap length is, length-append front after), (subst (λ i. i < 2 ^ 64) b few, subst (λ i. i ≤ 128) c low))

-- Of some terms the first are measured: the others are spelled behind them, and the measures of all are those of both.
pub record Left (All : Terms → List ℕ → Type 0) (ts : Terms) (content : List ℕ) (done len n k w : ℕ) : Type 0 where
  pub within : len ≤ length content
  pub left : Terms
  pub spelled : All left (drop len content)
  pub counted : done + count left ≡ count ts
  pub nodes_are : n + all_nodes left ≡ all_nodes ts
  pub nests_are : max k (nests left) ≡ nests ts
  pub weights_are : capped (w + weights left false) ≡ capped (weights ts false)
  pub fits : w < 2 ^ 64

-- none is measured yet
pub left_all : (All : Terms → List ℕ → Type 0) (ts : Terms) (content : List ℕ) → All ts content → Left All ts content 0 0 0 0 0
left_all All ts content h = record {
  within = omega arith;
  left = ts;
  spelled = h;
  counted = omega arith;
  nodes_are = omega arith;
  nests_are = omega arith;
  weights_are = omega arith;
  fits = omega arith;
}

-- The first of the items that are left.
pub record Next (Is : Term → List ℕ → Type 0) (All : Terms → List ℕ → Type 0) (ts : Terms) (content : List ℕ) (done len n k w : ℕ)
    : Type 0 where
  pub term : Term
  pub others : Terms
  pub front : List ℕ
  pub after : List ℕ
  pub is : drop len content ≡ front ++ after
  pub spelled : Is term front
  pub behind : All others after
  pub counted : done + suc (count others) ≡ count ts
  pub nodes_are : n + (nodes term + all_nodes others) ≡ all_nodes ts
  pub nests_are : max k (max (nest term) (nests others)) ≡ nests ts
  pub weights_are : capped (w + (weight term false + weights others false)) ≡ capped (weights ts false)
  pub within : len + length front ≤ length content

module _ (Is : Term → List ℕ → Type 0) (All : Terms → List ℕ → Type 0)
    (joined : (t : Term) (us : Terms) (b : List ℕ) → All (more t us) b → Joined (Is t) (All us) b) where
  next_at : (ts : Terms) (content : List ℕ) (done len n k w : ℕ) (left : Terms) → len ≤ length content → All left (drop len content)
      → done + count left ≡ count ts → n + all_nodes left ≡ all_nodes ts → max k (nests left) ≡ nests ts
      → capped (w + weights left false) ≡ capped (weights ts false) → done < count ts → Next Is All ts content done len n k w
  next_at ts content done len n k w none l s c m d v less = absurd (omega (arith, c, less))
  next_at ts content done len n k w (more t us) l s c m d v less =
      let (first, second, e, p, q) = joined t us (drop len content) s in
      record {
        term = t;
        others = us;
        front = first;
        after = second;
        is = e;
        spelled = p;
        behind = q;
        counted = c;
        nodes_are = m;
        nests_are = d;
        weights_are = v;
        within = omega (arith, l, ap length e, length-append first second, length-drop len content);
      }

  pub next : (ts : Terms) (content : List ℕ) (done len n k w : ℕ) → done < count ts → Left All ts content done len n k w
      → Next Is All ts content done len n k w
  next ts content done len n k w less h =
      next_at ts content done len n k w h.left h.within h.spelled h.counted h.nodes_are h.nests_are h.weights_are less

  -- one more is measured
  pub left_more : (ts : Terms) (content : List ℕ) (done len n k w l m d v : ℕ) → done < count ts → Left All ts content done len n k w
      → Begins Is (drop len content) l m d v → Left All ts content (done + 1) (len + l) (n + m) (max k d) (capped (w + v))
  left_more ts content done len n k w l m d v less h f =
      let x = next ts content done len n k w less h in
      let (a, b, c, e) = f x.term x.front x.after x.is x.spelled in
      let counted = x.counted in
      let nodes_are = x.nodes_are in
      let nests_are = x.nests_are in
      let within = x.within in
      let behind : drop (len + l) content ≡ x.after =
      sym (drop-drop l len content) ∙ ap (drop l) x.is ∙ ap (λ i. drop i (x.front ++ x.after)) (sym a) ∙ drop-append_seam x.front x.after in
      record {
        within = omega (arith, a, within);
        left = x.others;
        spelled = subst (All x.others) (sym behind) x.behind;
        counted = omega (arith, counted);
        nodes_are = omega (arith, b, nodes_are);
        nests_are = omega (arith, c, nests_are);
        weights_are = capped_more w v (weight x.term false) (weights x.others false) e ∙ x.weights_are;
        fits = omega arith;
      }

  -- its measures fit, and so do the sums
  pub next_fits : (ts : Terms) (content : List ℕ) (done len n k w : ℕ) → done < count ts → Left All ts content done len n k w
      → Fits (all_nodes ts) (nests ts) → Measurable Is (drop len content)
  next_fits ts content done len n k w less h (few, low) =
      let x = next ts content done len n k w less h in
      let nodes_are = x.nodes_are in
      let nests_are = x.nests_are in
      (x.term, x.front, x.after, x.is, x.spelled, (omega (arith, few, nodes_are), omega (arith, low, nests_are)))

  pub sums_fit : (ts : Terms) (content : List ℕ) (done len n k w l m d v : ℕ) → done < count ts → Left All ts content done len n k w
      → Fits (all_nodes ts) (nests ts) → Begins Is (drop len content) l m d v → (len + l ≤ length content) × (n + m < 2 ^ 64)
  sums_fit ts content done len n k w l m d v less h (few, low) f =
      let more_ = left_more ts content done len n k w l m d v less h f in
      let within = more_.within in
      let nodes_are = more_.nodes_are in
      (omega (arith, within), omega (arith, few, nodes_are))

done_at : (ts : Terms) (done n k w : ℕ) (left : Terms) → done + count left ≡ count ts → n + all_nodes left ≡ all_nodes ts
    → max k (nests left) ≡ nests ts → capped (w + weights left false) ≡ capped (weights ts false) → count ts ≤ done → w < 2 ^ 64
    → (all_nodes ts ≡ n) × (nests ts ≡ k) × (capped (weights ts false) ≡ w)
done_at ts done n k w none c m d v most fits = (omega (arith, m), omega (arith, d), omega (arith, v, fits))
done_at ts done n k w (more t us) c m d v most fits = absurd (omega (arith, c, most))

-- all are measured
pub left_none : (All : Terms → List ℕ → Type 0) (ts : Terms) (content : List ℕ) (done len n k w : ℕ) → count ts ≤ done
    → Left All ts content done len n k w → (all_nodes ts ≡ n) × (nests ts ≡ k) × (capped (weights ts false) ≡ w)
left_none All ts content done len n k w most h =
    done_at ts done n k w h.left h.counted h.nodes_are h.nests_are h.weights_are most h.fits

-- a term without descriptors weighs the same as an item of an array
bare_weight : (t : Term) (c : ℕ) (b : List ℕ) → IsDataOf t [] c b → weight t true ≡ weight t false
bare_weight (leaf p) c b h = refl
bare_weight (container k ts) c b h = refl
bare_weight (described d t) c b h = absurd h
bare_weight (kept x) c b h = refl
bare_weight (barred r) c b h = refl

-- The term within its descriptors.
record Stripped (t : Term) (ds : List Descriptor) (c : ℕ) (b : List ℕ) : Type 0 where
  term : Term
  spelled : IsDataOf term [] c b
  nodes_are : nodes t ≡ nodes term
  nest_is : nest t ≡ length ds + nest term
  weight_is : weight t false ≡ weight term false
  weight_shared : weight t true ≡ shares ds + weight term false

stripped : (t : Term) (ds : List Descriptor) (c : ℕ) (b : List ℕ) → IsDataOf t ds c b → Stripped t ds c b
stripped t [] c b h = record {
  term = t;
  spelled = h;
  nodes_are = refl;
  nest_is = omega arith;
  weight_is = refl;
  weight_shared = omega (arith, bare_weight t c b h);
}
stripped (described d t) (e ∷ ds) c b (s, h) =
    let x = stripped t ds c b h in
    let nest_is = x.nest_is in
    let weight_shared = x.weight_shared in
    record {
      term = x.term;
      spelled = x.spelled;
      nodes_are = x.nodes_are;
      nest_is = omega (arith, nest_is);
      weight_is = x.weight_is;
      weight_shared = omega (arith, ap share s, weight_shared);
    }
stripped (leaf p) (e ∷ ds) c b h = absurd h
stripped (container list ts) (e ∷ ds) c b h = absurd h
stripped (container map ts) (e ∷ ds) c b h = absurd h
stripped (container array ts) (e ∷ ds) c b h = absurd h
stripped (kept k) (e ∷ ds) c b h = absurd h
stripped (barred r) (e ∷ ds) c b h = absurd h

-- What stands behind the constructor of a term.
pub record Bare (n c len : ℕ) (input front after : List ℕ) (t : Term) : Type 0 where
  pub term : Term
  pub bytes : List ℕ
  pub is : drop len input ≡ bytes ++ after
  pub spelled : IsDataOf term [] c bytes
  pub long : length front ≡ len + length bytes
  pub nodes_are : nodes t ≡ nodes term
  pub nest_is : nest t ≡ n + nest term
  pub weight_is : weight t false ≡ weight term false

bare : (n c len : ℕ) (input : List ℕ) → IsFront (Constructs n c) input len → (t : Term) (front after : List ℕ) → input ≡ front ++ after
    → IsSpelling front t → Bare n c len input front after t
unfolding IsSpelling
bare n c len input f t front after is (ds, c', few, (first, second, s, q, d)) =
    let (es, r, l, _, x, v) = behind_constructor (IsDataOf t) n c (take len input) (drop len input) ds c' first second front after f.spelled s q d
    (take-append-drop len input ∙ is) in
    let u = stripped t es c r v in
    let within = f.within in
    record {
      term = u.term;
      bytes = r;
      is = x;
      spelled = u.spelled;
      long = omega (arith, within, ap length is, length-append front after, ap length x, length-append r after, length-drop len input);
      nodes_are = u.nodes_are;
      nest_is = subst (λ i. nest t ≡ i + nest u.term) l u.nest_is;
      weight_is = u.weight_is;
    }

-- a term has a constructor
pub term_there : (input : List ℕ) (e : Error) → Measurable Whole input → Refuses HasConstructor input e → ⊥
term_there input e (t, front, after, is, s, (few, low)) h =
    (term_unbegun 128 input e h).none [] (λ _. refl) front after (append-nil input ∙ is) (t, s, low)

pub term_data : (n c len : ℕ) (input : List ℕ) → IsFront (Constructs n c) input len → Measurable Whole input
    → Measurable (Data c) (drop len input)
term_data n c len input f (t, front, after, is, s, (few, low)) =
    let x = bare n c len input f t front after is s in
    let nodes_are = x.nodes_are in
    let nest_is = x.nest_is in
    (x.term, x.bytes, after, x.is, x.spelled, (subst (λ i. i < 2 ^ 64) nodes_are few, omega (arith, low, nest_is)))

pub term_measured : (n c len l m d w : ℕ) (input : List ℕ) → IsFront (Constructs n c) input len → Begins (Data c) (drop len input) l m d w
    → Begins Whole input (len + l) m (n + d) w
term_measured n c len l m d w input f h t front after is s =
    let x = bare n c len input f t front after is s in
    let (a, b, e, v) = h x.term x.bytes after x.is x.spelled in
    (x.long ∙ ap (λ i. len + i) a, x.nodes_are ∙ b, x.nest_is ∙ ap (λ i. n + i) e, ap capped x.weight_is ∙ v)

-- under the code of the empty list
empty_list : (t : Term) (b : List ℕ) → IsDataOf t [] 0x45 b → (length b ≡ 0) × (nodes t ≡ 1) × (nest t ≡ 1) × (capped (weight t false) ≡ 1)
empty_list (leaf p) b h = absurd h
empty_list (container list none) b (k, size, content, is, empty, fits, room, s) = (ap length (s ∙ empty), refl, refl, refl)
empty_list (container list (more t ts)) b (k, size, content, is, items, fits, room, s) = absurd (omega (arith, room))
empty_list (container map ts) b h = let e : list ≡ map = h.1.0 in cc
empty_list (container array ts) b h = let e : list ≡ array = h.0 in cc
empty_list (described d t) b h = absurd h
empty_list (kept x) b h = absurd h
empty_list (barred r) b h = absurd h

pub empty_measured : (c : ℕ) (input : List ℕ) → c ≡ 0x45 → Begins (Data c) input 0 1 1 1
empty_measured c input e t front after is s = empty_list t front (subst (λ i. IsDataOf t [] i front) e s)

-- under the code of a primitive
primitive_held : (c : ℕ) (t : Term) (b : List ℕ) → IsPrimitive (format c) → IsDataOf t [] c b
    → (p : Primitive) × PrimitiveData (format c) p b × (nodes t ≡ 1) × (nest t ≡ 0) × (capped (weight t false) ≡ 1)
primitive_held c (leaf p) b is h = (p, h, refl, refl, refl)
primitive_held c (container list ts) b is h = absurd (no_container (format c) list (count ts) (AreItemsOf ts) b is h)
primitive_held c (container map ts) b is h = absurd (no_container (format c) map (count ts) (AreItemsOf ts) b is h.1)
primitive_held c (container array ts) b is h = absurd (no_container (format c) array (count ts) (AreElementsOf ts) b is h)
primitive_held c (described d t) b is h = absurd h
primitive_held c (kept x) b is h = absurd h
primitive_held c (barred r) b is h = absurd h

pub primitive_there : (c : ℕ) (input : List ℕ) (e : Error) → IsPrimitive (format c) → Measurable (Data c) input
    → Refuses (PrimitiveOf c) input e → ⊥
primitive_there c input e p (t, front, after, is, s, fits) h =
    let (q, k, _, _, _) = primitive_held c t front p s in
    h.none [] (λ _. refl) front after (append-nil input ∙ is) (q, k)

pub primitive_measured : (c len : ℕ) (input : List ℕ) → IsPrimitive (format c) → IsFront (PrimitiveOf c) input len
    → Begins (Data c) input len 1 0 1
primitive_measured c len input p f t front after is s =
    let (q, k, m, d, w) = primitive_held c t front p s in
    let (r, j) = f.spelled in
    let same : front ≡ take len input =
    (primitive_same (format c) q r front (take len input) after (drop len input) k j (sym is ∙ sym (take-append-drop len input))).0 in
    (ap length same ∙ length-take-le len input f.within, m, d, w)

-- under the code of a container
held : (kind : Container) (c w : ℕ) (t : Term) (b : List ℕ) → format c ≡ compound kind w → IsDataOf t [] c b
    → (ts : Terms) × (t ≡ container kind ts) × ContainerData (compound kind w) kind (count ts) (contents kind ts) b
held kind c w (leaf p) b is h = absurd (subst (λ F. PrimitiveData F p b) is h)
held list c w (container list ts) b is h = (ts, refl, subst (λ F. ContainerData F list (count ts) (AreItemsOf ts) b) is h)
held map c w (container map ts) b is h = (ts, refl, subst (λ F. ContainerData F map (count ts) (AreItemsOf ts) b) is h.1)
held array c w (container array ts) b is h = (ts, refl, subst (λ F. ContainerData F array (count ts) (AreElementsOf ts) b) is h)
held list c w (container map ts) b is h =
    let e : list ≡ map = (subst (λ F. ContainerData F map (count ts) (AreItemsOf ts) b) is h.1).0 in cc
held list c w (container array ts) b is h =
    let e : list ≡ array = (subst (λ F. ContainerData F array (count ts) (AreElementsOf ts) b) is h).0 in cc
held map c w (container list ts) b is h =
    let e : map ≡ list = (subst (λ F. ContainerData F list (count ts) (AreItemsOf ts) b) is h).0 in cc
held map c w (container array ts) b is h =
    let e : map ≡ array = (subst (λ F. ContainerData F array (count ts) (AreElementsOf ts) b) is h).0 in cc
held array c w (container list ts) b is h =
    let e : array ≡ list = (subst (λ F. ContainerData F list (count ts) (AreItemsOf ts) b) is h).0 in cc
held array c w (container map ts) b is h =
    let e : array ≡ map = (subst (λ F. ContainerData F map (count ts) (AreItemsOf ts) b) is h.1).0 in cc
held kind c w (described d t) b is h = absurd h
held kind c w (kept x) b is h = absurd h
held kind c w (barred r) b is h = absurd h

-- The items of a container.
pub record Held (kind : Container) (size len : ℕ) (items front : List ℕ) (t : Term) : Type 0 where
  pub terms : Terms
  pub is : t ≡ container kind terms
  pub counted : count terms ≡ size
  pub spelled : contents kind terms items
  pub long : length front ≡ len

held_parts : (kind : Container) (c w size len : ℕ) (items input : List ℕ) → format c ≡ compound kind w
    → IsFront (IsContent kind w size items) input len → (t : Term) (front after : List ℕ) → input ≡ front ++ after → IsDataOf t [] c front
    → Held kind size len items front t
held_parts kind c w size len items input code f t front after is s =
    let (ts, e, h) = held kind c w t front code s in
    let (same, (m, i)) = container_same (compound kind w) kind (count ts) size (contents kind ts) (λ content. content ≡ items)
    ((count ts ≡ size) × contents kind ts items) (λ m l i k. (m, subst (contents kind ts) k i)) front (take len input) after (drop len input) h
    f.spelled (sym is ∙ sym (take-append-drop len input)) in
    record { terms = ts; is = e; counted = m; spelled = i; long = ap length same ∙ length-take-le len input f.within }

pub container_there : (kind : Container) (c w : ℕ) (input : List ℕ) (e : Error) → format c ≡ compound kind w → Measurable (Data c) input
    → Refuses (HasContent kind w) input e → ⊥
container_there kind c w input e code (t, front, after, is, s, fits) h =
    let (ts, _, (k, size, content, z, i, m, n, x)) = held kind c w t front code s in
    h.none [] (λ _. refl) front after (append-nil input ∙ is) (count ts, content, (k, size, content, z, refl, m, n, x))

pub container_content : (kind : Container) (c w size len : ℕ) (items input : List ℕ) → format c ≡ compound kind w
    → IsFront (IsContent kind w size items) input len → Measurable (Data c) input
    → AllMeasurable (contents kind) (content_nest kind) size items
container_content kind c w size len items input code f (t, front, after, is, s, (few, low)) =
    let x = held_parts kind c w size len items input code f t front after is s in
    let n : nodes t ≡ suc (all_nodes x.terms) = ap nodes x.is in
    (x.terms, x.counted, x.spelled, (omega (arith, few, n), subst (λ i. i ≤ 128) (ap nest x.is) low))

pub container_measured : (kind : Container) (c w size len m d v : ℕ) (items input : List ℕ) → format c ≡ compound kind w
    → IsFront (IsContent kind w size items) input len
    → AllMeasured (contents kind) (content_nest kind) (is_sharing kind) size items m d v
    → Begins (Data c) input len (1 + m) d (capped (v + 1))
container_measured kind c w size len m d v items input code f h t front after is s =
    let x = held_parts kind c w size len items input code f t front after is s in
    let (a, b, e) = h x.terms x.counted x.spelled in
    let n : nodes t ≡ suc (all_nodes x.terms) = ap nodes x.is in
    let i : weight t false ≡ suc (weights x.terms (is_sharing kind)) = ap (λ t. weight t false) x.is in
    (x.long, omega (arith, n, a), ap nest x.is ∙ b, omega (arith, i, e))

-- The items of an array within their descriptors.
record AllStripped (ts : Terms) (ds : List Descriptor) (c : ℕ) (b : List ℕ) : Type 0 where
  terms : Terms
  counted : count terms ≡ count ts
  spelled : AreSharedDataOf terms [] c b
  nodes_are : all_nodes ts ≡ all_nodes terms
  nests_are : max (length ds) (nests ts) ≡ length ds + nests terms
  weights_are : weights ts true ≡ shares ds * count ts + weights terms false

stripped_all : (ts : Terms) (ds : List Descriptor) (c : ℕ) (b : List ℕ) → AreSharedDataOf ts ds c b → AllStripped ts ds c b
stripped_all none ds c b h = record {
  terms = none;
  counted = refl;
  spelled = h;
  nodes_are = refl;
  nests_are = omega arith;
  weights_are = omega arith;
}
stripped_all (more t ts) ds c b (first, second, e, s, r) =
    let x = stripped t ds c first s in
    let y = stripped_all ts ds c second r in
    let nodes_are = x.nodes_are in
    let nest_is = x.nest_is in
    let weight_shared = x.weight_shared in
    let all_nodes_are = y.nodes_are in
    let nests_are = y.nests_are in
    let weights_are = y.weights_are in
    record {
      terms = more x.term y.terms;
      counted = ap suc y.counted;
      spelled = (first, second, e, x.spelled, y.spelled);
      nodes_are = omega (arith, nodes_are, all_nodes_are);
      nests_are = omega (arith, nest_is, nests_are);
      weights_are = omega (arith, weight_shared, weights_are, mul-add (shares ds) 1 (count ts));
    }

-- The descriptors of the constructor a of an array's items, and what stands behind it.
pub record Shared (n c size : ℕ) (a b : List ℕ) (ts : Terms) : Type 0 where
  pub descriptors : List Descriptor
  pub constructs : Constructor descriptors c a
  pub terms : Terms
  pub counted : count terms ≡ size
  pub spelled : AreSharedDataOf terms [] c b
  pub nodes_are : all_nodes ts ≡ all_nodes terms
  pub nests_are : array_nest ts ≡ levels_of n c + nests terms
  pub weights_are : weights ts true ≡ shares descriptors * size + weights terms false

-- an array lies its levels above the bare data
level_sum : (n c a m x : ℕ) (t : Term) (ts : Terms) → IsLevel n c t ts → array_nest (more t ts) ≡ a → nests (more t ts) ≡ m → max n m ≡ n + x
    → a ≡ levels_of n c + x
level_sum n c a m x t ts h e f s =
    let (few, low) = h.most a (omega (arith, e)) in
    let least = h.least (levels_of n c + x) (omega arith) (omega (arith, f, s)) in
    omega (arith, few, low, least, e, f, s)

shared : (n c size len : ℕ) (b : List ℕ) → Constructs n c (take len b) → (size ≡ 0 → ⊥) → (ts : Terms) → count ts ≡ size
    → AreElementsOf ts b → (b ≡ [] → ⊥) → Shared n c size (take len b) (drop len b) ts
shared n c size len b h some none l s full = absurd (some (sym l))
shared n c size len b h some (more t ts) l s full =
    let (ds, m, q, (wide, v)) = elements_behind n c (take len b) (drop len b) (more t ts) b full h s (take-append-drop len b) in
    let x = stripped_all (more t ts) ds c (drop len b) v in
    let e = subst (λ i. IsLevel i c t ts) m (level ds c t ts (drop len b) (container_at c (constructs_known n c (take len b) h)) v) in
    record {
      descriptors = ds;
      constructs = q;
      terms = x.terms;
      counted = x.counted ∙ l;
      spelled = x.spelled;
      nodes_are = x.nodes_are;
      nests_are = level_sum n c _ _ (nests x.terms) t ts e refl refl
          (subst (λ i. max i (nests (more t ts)) ≡ i + nests x.terms) m x.nests_are);
      weights_are = subst (λ i. weights (more t ts) true ≡ shares ds * i + weights x.terms false) l x.weights_are;
    }

full_of : (size : ℕ) (b : List ℕ) → (size ≡ 0 → ⊥) → (ts : Terms) → count ts ≡ size → AreElementsOf ts b → b ≡ [] → ⊥
full_of size b some ts l s e = elements_some (array_nest ts) size b e some (ts, l, s, omega arith)

pub elements_there : (size : ℕ) (b : List ℕ) (e : Error) → (size ≡ 0 → ⊥) → AllMeasurable AreElementsOf array_nest size b
    → Refuses HasConstructor b e → ⊥
elements_there size b e some (ts, l, s, (few, low)) h = elements_unbegun 128 size b e (full_of size b some ts l s) h (ts, l, s, low)

pub elements_shared : (n c size len : ℕ) (b : List ℕ) → IsFront (Constructs n c) b len → (size ≡ 0 → ⊥)
    → AllMeasurable AreElementsOf array_nest size b → AllMeasurable (Items c) nests size (drop len b)
elements_shared n c size len b f some (ts, l, s, (few, low)) =
    let x = shared n c size len b f.spelled some ts l s (full_of size b some ts l s) in
    let nests_are = x.nests_are in
    (x.terms, x.counted, x.spelled, (subst (λ i. i < 2 ^ 64) x.nodes_are few, omega (arith, low, nests_are)))

pub elements_measured : (n c size len m d w each : ℕ) (b : List ℕ) → IsFront (Constructs n c) b len → (size ≡ 0 → ⊥)
    → ((ds : List Descriptor) (k : ℕ) → Constructor ds k (take len b) → each ≡ shares ds)
    → AllMeasured (Items c) nests false size (drop len b) m d w
    → AllMeasured AreElementsOf array_nest true size b m (levels_of n c + d) (capped (w + capped (each * size)))
elements_measured n c size len m d w each b f some g h ts l s =
    let x = shared n c size len b f.spelled some ts l s (full_of size b some ts l s) in
    let (y, z, v) = h x.terms x.counted x.spelled in
    let weights_are = subst (λ i. weights ts true ≡ i * size + weights x.terms false) (sym (g x.descriptors c x.constructs)) x.weights_are in
    (x.nodes_are ∙ y, x.nests_are ∙ ap (λ i. levels_of n c + i) z, omega (arith, weights_are, v))

no_terms : (ts : Terms) → count ts ≡ 0 → (all_nodes ts ≡ 0) × (array_nest ts ≡ 0) × (capped (weights ts true) ≡ 0)
no_terms none e = (refl, refl, refl)
no_terms (more t ts) e = absurd (omega (arith, e))

pub elements_none : (size : ℕ) (b : List ℕ) → size ≡ 0 → AllMeasured AreElementsOf array_nest true size b 0 0 0
elements_none size b e ts l s = no_terms ts (l ∙ e)

-- some items' measures fit as the container's do
pub all_fit : (All : Terms → List ℕ → Type 0) (depth : Terms → ℕ) (sharing : Bool) (size : ℕ) (b : List ℕ) (n k w : ℕ)
    → AllMeasurable All depth size b → AllMeasured All depth sharing size b n k w → Fits n k
all_fit All depth sharing size b n k w (ts, l, s, (few, low)) h =
    let (x, y, _) = h ts l s in (subst (λ i. i < 2 ^ 64) x few, subst (λ i. i ≤ 128) y low)

-- a term in front of bytes that is all of them
front_whole : (n : ℕ) (b : List ℕ) (len : ℕ) → IsFront (IsTerm n) b len → length b ≤ len → IsTerm n b
front_whole n b len f e = subst (IsTerm n) (take_all len b e) f.spelled

-- of bytes that are a term, no shorter front is one
pub whole_front : (n : ℕ) (b : List ℕ) (len : ℕ) → IsFront (IsTerm n) b len → IsTerm n b → length b ≤ len
whole_front n b len f i =
    let one = one_front (take len b) b (drop len b) [] f.spelled.0 i.0 f.spelled.1 i.1 (take-append-drop len b ∙ sym (append-nil b)) in
    let within = f.within in
    omega (arith, ap length one, length-take-le len b within, within)

pub none_whole : (n : ℕ) (b : List ℕ) (e : Error) → Refuses (IsTerm n) b e → IsTerm n b → ⊥
none_whole n b e r i = r.none [] (λ _. refl) b [] refl i

-- bytes that are all a term are measured
pub whole_measurable : (b : List ℕ) (len : ℕ) → IsFront (IsTerm 128) b len → length b ≤ len → length b < 2 ^ 64 → Measurable Whole b
whole_measurable b len f e room =
    let (t, s, deep) = front_whole 128 b len f e in
    (t, b, [], sym (append-nil b), s, (omega (arith, nodes_bounded b t s), deep))

pub whole_measured : (b : List ℕ) (len l n k w : ℕ) → IsFront (IsTerm 128) b len → length b ≤ len → Begins Whole b l n k w
    → IsMeasured n k b
whole_measured b len l n k w f e h =
    let (t, s, deep) = front_whole 128 b len f e in
    let (x, y, z, _) = h t b [] (sym (append-nil b)) s in
    (t, s, y, z, subst (λ i. i ≤ 128) z deep)

pub whole_weighed : (b : List ℕ) (l n k w : ℕ) → Begins Whole b l n k w → (t : Term) → IsSpelling b t → w ≡ capped (weight t false)
whole_weighed b l n k w h t s = sym (h t b [] (sym (append-nil b)) s).3
