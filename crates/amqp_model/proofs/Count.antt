-- No spelling has fewer bytes than its term has values.
use Rattle.std.proofs.Common.{ℕ, ◌≤◌, List, [], ◌∷◌, length, arith, suc, zero}
use Rattle.amqp_model.specs.Term.{Primitive, Container, list, map, array, Term, Terms, leaf, container, described, kept, barred, none, more}
use Rattle.amqp_model.specs.Term.{Descriptor, count}
use Rattle.amqp_model.specs.Constructors.{Format, fixed, variable, compound, unknown, format}
use Rattle.amqp_model.specs.Spelling.{PrimitiveData, ContainerData, HasWidthZero, IsDataOf, AreItemsOf, AreElementsOf, AreSharedDataOf, IsSpelling}
use Rattle.amqp_model.specs.Measures.{nodes, all_nodes}
use Rattle.amqp_model.proofs.Lengths.{joined_length, sized_length, frame_length, constructor_length}

primitive_length : (F : Format) (p : Primitive) (d : List ℕ) → PrimitiveData F p d → (HasWidthZero F → ⊥) → 1 ≤ length d
primitive_length (fixed zero v) p d h some = absurd (some tt)
primitive_length (fixed (suc w) v) p d h some = omega (arith, h.0)
primitive_length (variable zero v) p d h some = absurd (some tt)
primitive_length (variable (suc w) v) p d (s, fits, e, _, _) some = omega (arith, sized_length (suc w) s d e)
primitive_length (compound k w) p d h some = absurd h
primitive_length unknown p d h some = absurd h

-- data is longer than its content, if its format isn't of width zero
container_length : (F : Format) (k : Container) (n m : ℕ) (C : List ℕ → Type 0) (d : List ℕ) → ContainerData F k n C d
    → ((b : List ℕ) → C b → m ≤ length b) → (m ≤ length d) × ((HasWidthZero F → ⊥) → suc m ≤ length d)
container_length (compound k' zero) k n m C d (is, size, content, s, c, fits, room, e) inner =
    let l = frame_length 0 size n content d e in
    let i = inner content c in
    (omega arith, λ some. absurd (some tt))
container_length (compound k' (suc w)) k n m C d (is, size, content, s, c, fits, room, e) inner =
    let l = frame_length (suc w) size n content d e in
    let i = inner content c in
    (omega arith, λ some. omega arith)
container_length (fixed w v) k n m C d h inner = absurd h
container_length (variable w v) k n m C d h inner = absurd h
container_length unknown k n m C d h inner = absurd h

mutual
  data_nodes : (t : Term) (ds : List Descriptor) (c : ℕ) (d : List ℕ) → IsDataOf t ds c d → (nodes t ≤ suc (length d))
      × ((HasWidthZero (format c) → ⊥) → nodes t ≤ length d)
  data_nodes (leaf p) [] c d h = (omega arith, primitive_length (format c) p d h)
  data_nodes (leaf p) (e ∷ ds) c d h = absurd h
  data_nodes (container list ts) [] c d h =
      let r = container_length (format c) list (count ts) (all_nodes ts) (AreItemsOf ts) d h (λ b i. items_nodes ts b i) in
      (omega (arith, r.0), r.1)
  data_nodes (container list ts) (e ∷ ds) c d h = absurd h
  data_nodes (container map ts) [] c d h =
      let r = container_length (format c) map (count ts) (all_nodes ts) (AreItemsOf ts) d h.1 (λ b i. items_nodes ts b i) in
      (omega (arith, r.0), r.1)
  data_nodes (container map ts) (e ∷ ds) c d h = absurd h
  data_nodes (container array ts) [] c d h =
      let r = container_length (format c) array (count ts) (all_nodes ts) (AreElementsOf ts) d h (λ b i. elements_nodes ts b i) in
      (omega (arith, r.0), r.1)
  data_nodes (container array ts) (e ∷ ds) c d h = absurd h
  data_nodes (described f t) [] c d h = absurd h
  data_nodes (described f t) (e ∷ ds) c d h = data_nodes t ds c d h.1
  data_nodes (kept b) ds c d h = absurd h
  data_nodes (barred r) ds c d h = absurd h

  items_nodes : (ts : Terms) (b : List ℕ) → AreItemsOf ts b → all_nodes ts ≤ length b
  items_nodes none b h = omega arith
  items_nodes (more t ts) b (first, second, e, (ds, c, few, (h, d, e', k, s)), rest) =
      omega (
        arith,
        joined_length b first second e,
        joined_length first h d e',
        constructor_length ds c h k,
        (data_nodes t ds c d s).0,
        items_nodes ts second rest,
      )

  elements_nodes : (ts : Terms) (b : List ℕ) → AreElementsOf ts b → all_nodes ts ≤ length b
  elements_nodes none b h = omega arith
  elements_nodes (more t ts) b (ds, c, few, (h, d, e, k, (some, (first, second, e', s, rest)))) =
      omega (
        arith,
        joined_length b h d e,
        joined_length d first second e',
        (data_nodes t ds c first s).1 some,
        shared_nodes ts ds c second rest some,
      )

  shared_nodes : (ts : Terms) (ds : List Descriptor) (c : ℕ) (b : List ℕ) → AreSharedDataOf ts ds c b → (HasWidthZero (format c) → ⊥)
      → all_nodes ts ≤ length b
  shared_nodes none ds c b h some = omega arith
  shared_nodes (more t ts) ds c b (first, second, e, s, rest) some =
      omega (arith, joined_length b first second e, (data_nodes t ds c first s).1 some, shared_nodes ts ds c second rest some)

pub nodes_bounded : (b : List ℕ) (t : Term) → IsSpelling b t → nodes t ≤ length b
unfolding IsSpelling
nodes_bounded b t (ds, c, few, (h, d, e, k, s)) =
    omega (arith, joined_length b h d e, constructor_length ds c h k, (data_nodes t ds c d s).0)
