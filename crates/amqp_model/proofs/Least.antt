-- No spelling of a term without arrays is shorter than its canonical text.
use Rattle.std.proofs.Common.{◌≡◌, ℕ, ◌+◌, ◌^◌, ◌<◌, ◌≤◌, ◌⊎◌, ◌≢◌, inl, inr, List, [], ◌∷◌, ◌++◌, length, sym, ap, ◌∙◌, subst, arith, suc}
use Rattle.std.proofs.lemmas.List.{length-append}
use Rattle.std.specs.Int.{bytes_high_first}
use Rattle.amqp_model.specs.Term.{Container, list, map, array, Term, Terms, leaf, container, described, kept, barred, none, more}
use Rattle.amqp_model.specs.Term.{Descriptor, count}
use Rattle.amqp_model.specs.Constructors.{Format, fixed, variable, compound, unknown, format}
use Rattle.amqp_model.specs.Spelling.{IsSize, ContainerData, descriptor_value, Names, Constructor, IsDataOf, AreItemsOf, IsSpelling}
use Rattle.amqp_model.specs.Text.{Alone, shortest, spell, compact_head, text, texts}
use Rattle.amqp_model.specs.Ranges.{Everywhere, EverywhereIn, IsBytes, IsNoArray}
use Rattle.amqp_model.proofs.Lengths.{joined_length, frame_length, compact_cases}
use Rattle.amqp_model.proofs.Shortest.{IsLeast, format_least, shortest_least}

pub bytes_left : (a b : List ℕ) → IsBytes (a ++ b) → IsBytes a
bytes_left [] b h = tt
bytes_left (x ∷ a) b h = (h.0, bytes_left a b h.1)

pub bytes_right : (a b : List ℕ) → IsBytes (a ++ b) → IsBytes b
bytes_right [] b h = h
bytes_right (x ∷ a) b h = bytes_right a b h.1

pub frame_bytes : (w size n : ℕ) (content d : List ℕ) → d ≡ bytes_high_first w size ++ (bytes_high_first w n ++ content)
    → IsBytes d → IsBytes content
frame_bytes w size n content d e b =
    bytes_right (bytes_high_first w n) content (bytes_right (bytes_high_first w size) (bytes_high_first w n ++ content) (subst IsBytes e b))

size_short : (k : Container) (w n size : ℕ) (content : List ℕ) → w ≡ 1 → IsSize k w n content size → size < 256 → 1 + length content < 256
size_short k w n size content one (inl e) h = omega arith
size_short k w n size content one (inr (_, _, e, _)) h = let l : length content ≡ 0 = ap length e in omega arith

-- the length of a container's canonical text, where it isn't an empty list
compact_length : (k : Container) (n m : ℕ) (content : List ℕ) → 3 + length content ≤ m
    → ((255 ≤ length content) ⊎ (256 ≤ n) → 9 + length content ≤ m)
    → length (compact_head k n (length content) ++ content) ≤ m
compact_length k n m content short_ long_ =
    compact_cases k n (length content) (λ h. length (h ++ content) ≤ m) (λ _ _. omega arith) (λ e. omega (arith, long_ e))

too_many : (n m : ℕ) → n < 256 → m < 255 → (255 ≤ m) ⊎ (256 ≤ n) → ⊥
too_many n m h k (inl e) = omega arith
too_many n m h k (inr e) = omega arith

-- fewer items, of no more bytes, have no longer a text
pub container_least : (F : Format) (k : Container) (n n' : ℕ) (C : List ℕ → Type 0) (content' d : List ℕ) → IsLeast F → n' ≤ n
    → (1 ≤ n) ⊎ (k ≢ list) → ContainerData F k n C d → IsBytes d
    → ((content : List ℕ) → IsBytes content → C content → length content' ≤ length content)
    → length (compact_head k n' (length content') ++ content') ≤ 1 + length d
container_least (fixed w v) k n n' C content' d wide fewer some h b inner = absurd h
container_least (variable w v) k n n' C content' d wide fewer some h b inner = absurd h
container_least unknown k n n' C content' d wide fewer some h b inner = absurd h
container_least (compound k' w) k n n' C content' d (inl (zero_, a_list)) fewer (inl some)
    (is, size, content, s, c, fits, room, e) b inner =
    let less : n < 256 ^ 0 = subst (λ v. n < 256 ^ v) zero_ room in absurd (omega arith)
container_least (compound k' w) k n n' C content' d (inl (zero_, a_list)) fewer (inr some) (is, size, content, s, c, fits, room, e) b
    inner = absurd (some (sym is ∙ a_list))
container_least (compound k' w) k n n' C content' d (inr (inl one)) fewer some (is, size, content, s, c, fits, room, e) b inner =
    let less : size < 256 ^ 1 = subst (λ v. size < 256 ^ v) one fits in
    let most : 1 + length content < 256 = size_short k w n size content one s less in
    let all : length d ≡ w + (w + length content) = frame_length w size n content d e in
    let part : length content' ≤ length content = inner content (frame_bytes w size n content d e b) c in
    let few : n < 256 ^ 1 = subst (λ v. n < 256 ^ v) one room in
    compact_length k n' (1 + length d) content' (omega arith) (λ e. absurd (too_many n' (length content') (omega arith) (omega arith) e))
container_least (compound k' w) k n n' C content' d (inr (inr four)) fewer some (is, size, content, s, c, fits, room, e) b inner =
    let all : length d ≡ w + (w + length content) = frame_length w size n content d e in
    let part : length content' ≤ length content = inner content (frame_bytes w size n content d e b) c in
    compact_length k n' (1 + length d) content' (omega arith) (λ _. omega arith)

map_list : map ≢ list
map_list e = cc

pub descriptor_least : (f e : Descriptor) (h : List ℕ) → f ≡ e → Names e h → IsBytes h
    → length (spell (shortest (descriptor_value f))) ≤ length h
descriptor_least f e h same (c, d, s, p) b =
    let bytes : IsBytes (c ∷ d) = subst IsBytes s b in
    let l : length (shortest (descriptor_value f)).1 ≤ length d =
    subst (λ g. length (shortest (descriptor_value g)).1 ≤ length d) (sym same) (shortest_least c (descriptor_value e) d bytes.1 p) in
    let n : length h ≡ suc (length d) = ap length s in
    omega arith

mutual
  unfolding text

  least : (t : Term) (ds : List Descriptor) (c : ℕ) (h d : List ℕ) → Everywhere IsNoArray t → Constructor ds c h → IsDataOf t ds c d
      → IsBytes h → IsBytes d → length (text t Alone) ≤ length h + length d
  least (leaf p) [] c h d g k s b b' =
      let one : length h ≡ 1 = ap length k.0 in omega (arith, shortest_least c p d b' s)
  least (leaf p) (e ∷ ds) c h d g k s b b' = absurd s
  least (container list none) [] c h d g k s b b' = let one : length h ≡ 1 = ap length k.0 in omega arith
  least (container list none) (e ∷ ds) c h d g k s b b' = absurd s
  least (container list (more t ts)) [] c h d g k s b b' =
      let one : length h ≡ 1 = ap length k.0 in
      omega (
        arith,
        container_least (format c) list (suc (count ts)) (suc (count ts)) (AreItemsOf (more t ts)) (texts (more t ts) Alone) d
            (format_least c) (omega arith) (inl (omega arith)) s b' (λ content b i. items_least (more t ts) content g.1 i b),
      )
  least (container list (more t ts)) (e ∷ ds) c h d g k s b b' = absurd s
  least (container map ts) [] c h d g k s b b' =
      let one : length h ≡ 1 = ap length k.0 in
      omega (
        arith,
        container_least (format c) map (count ts) (count ts) (AreItemsOf ts) (texts ts Alone) d (format_least c) (omega arith) (inr map_list)
            s.1 b' (λ content b i. items_least ts content g.1 i b),
      )
  least (container map ts) (e ∷ ds) c h d g k s b b' = absurd s
  least (container array ts) ds c h d g k s b b' = absurd g.0
  least (described f t) [] c h d g k s b b' = absurd s
  least (described f t) (e ∷ ds) c h d g (first, second, e', names, k) s b b' =
      let bytes : IsBytes (first ++ second) = (subst IsBytes e' b).1 in
      let all : length h ≡ suc (length first + length second) = ap length e' ∙ ap suc (length-append first second) in
      let l = descriptor_least f e first s.0 names (bytes_left first second bytes) in
      let m = least t ds c second d g.1 k s.1 (bytes_right first second bytes) b' in
      let n : length (text (described f t) Alone) ≡ suc (length (spell (shortest (descriptor_value f))) + length (text t Alone)) =
      ap suc (length-append (spell (shortest (descriptor_value f))) (text t Alone)) in
      omega arith
  least (kept l) ds c h d g k s b b' = absurd s
  least (barred r) ds c h d g k s b b' = absurd s

  items_least : (ts : Terms) (b : List ℕ) → EverywhereIn IsNoArray ts → AreItemsOf ts b → IsBytes b → length (texts ts Alone) ≤ length b
  items_least none b g i h = omega arith
  items_least (more t ts) b g (first, second, e, (ds, c, few, (h, d, e', k, s)), rest) bytes =
      let b' : IsBytes (first ++ second) = subst IsBytes e bytes in
      let b'' : IsBytes (h ++ d) = subst IsBytes e' (bytes_left first second b') in
      let l = least t ds c h d g.0 k s (bytes_left h d b'') (bytes_right h d b'') in
      let m = items_least ts second g.1 rest (bytes_right first second b') in
      omega (arith, joined_length b first second e, joined_length first h d e', length-append (text t Alone) (texts ts Alone))

pub text_is_least : (b : List ℕ) (t : Term) → Everywhere IsNoArray t → IsBytes b → IsSpelling b t → length (text t Alone) ≤ length b
unfolding IsSpelling
text_is_least b t g bytes (ds, c, few, (h, d, e, k, s)) =
    let b' : IsBytes (h ++ d) = subst IsBytes e bytes in
    omega (arith, joined_length b h d e, least t ds c h d g k s (bytes_left h d b') (bytes_right h d b'))
