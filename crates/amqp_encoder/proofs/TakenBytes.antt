-- What is measured takes bytes, unless it is kept and has none.
use Rattle.std.proofs.Common.{ℕ, zero, suc, ◌+◌, ◌≤◌, ◌^◌, ◌⊎◌, List, [], ◌∷◌, length, refl, inl, inr, arith, length-append}
use Rattle.std.specs.Prelude.{true, false}
use Rattle.std.specs.Int.{bytes_high_first}
use Rattle.amqp_model.specs.Term.{Primitive, null, boolean, Container, list, map, array, Term, Terms, leaf, container, described, kept}
use Rattle.amqp_model.specs.Term.{barred, none, more, Descriptor, count}
use Rattle.amqp_model.specs.Text.{Place, Alone, First, Later, next, first_place, head, compact_head, container_text, content_of, wide}
use Rattle.amqp_model.specs.Text.{primitive_text, text, texts}
use Rattle.amqp_model.specs.Ranges.{Everywhere, EverywhereIn, IsValue, IsInRange}
use Rattle.amqp_model.specs.Refusals.{IsItem}
use Rattle.amqp_model.proofs.Bytes.{length-bytes}
use Rattle.amqp_model.proofs.Lengths.{compact_cases}
use Rattle.amqp_encoder.specs.Sound.{IsSound, AreSound, MayStand}
use Rattle.amqp_encoder.proofs.Measured.{TakesBytes}

data_taken : (x : Primitive) → IsInRange x → MayStand x Later → 1 ≤ length (wide x).1
data_taken null v m = absurd m
data_taken (boolean true) v m = omega arith
data_taken (boolean false) v m = omega arith
data_taken x v m = omega arith

primitive_taken : (x : Primitive) (p : Place) → IsInRange x → MayStand x p → 1 ≤ length (primitive_text p x)
primitive_taken x Alone v m = omega arith
primitive_taken x First v m = omega arith
primitive_taken x Later v m = data_taken x v m

described_taken : (d : Descriptor) (t : Term) (p : Place) → IsSound t p → TakesBytes t p → TakesBytes (described d t) p
unfolding text
described_taken d t Alone s h = inl (omega arith)
described_taken d t First s h = inl (omega arith)
described_taken d t Later s (inl h) = inl h
described_taken d t Later s (inr h) = let no_way : ⊥ = rw (← h) at s in absurd no_way

compact_taken : (k : Container) (n content : ℕ) → 1 ≤ length (compact_head k n content)
compact_taken k n content = compact_cases k n content (λ b. 1 ≤ length b) (λ a b. omega arith) (λ a. omega arith)

head_taken : (p : Place) (k : Container) (n content : ℕ) → 1 ≤ length (head p k n content)
head_taken First k n content = omega arith
head_taken Later k n content = omega (arith, length-append (bytes_high_first 4 (4 + content)) (bytes_high_first 4 n), length-bytes 4 n)
head_taken Alone list zero content = omega arith
head_taken Alone list (suc n) content = compact_taken list (suc n) content
head_taken Alone map n content = compact_taken map n content
head_taken Alone array n content = compact_taken array n content

container_taken : (p : Place) (k : Container) (n : ℕ) (content : List ℕ) → 1 ≤ length (container_text p k n content)
container_taken p k n content = omega (arith, length-append (head p k n (length content)) content, head_taken p k n (length content))

-- a term by itself
pub takes_bytes : (t : Term) (p : Place) → Everywhere IsValue t → IsSound t p → TakesBytes t p
unfolding text
takes_bytes (leaf x) p v s = inl (primitive_taken x p v s.1)
takes_bytes (container k ts) p v s = inl (container_taken p k (count ts) (content_of k (count ts) (texts ts (first_place k))))
takes_bytes (described d t) p v s = described_taken d t p s.1 (takes_bytes t p v.1 s.1)
takes_bytes (kept []) p v s = inr refl
takes_bytes (kept (x ∷ b)) p v s = inl (omega arith)
takes_bytes (barred r) p v s = absurd s

items_taken : (ts : Terms) (p : Place) → EverywhereIn IsValue ts → AreSound ts p → (count ts ≤ length (texts ts p)) ⊎ IsItem (kept []) ts
unfolding text
items_taken none p v s = inl (omega arith)
items_taken (more t ts) p v s = elim (takes_bytes t p v.0 s.0) [
  | inr h ↦ inr (inl h)
  | inl h ↦ elim (items_taken ts (next p) v.1 s.1) [
    | inr k ↦ inr (inr k)
    | inl k ↦ inl (omega (arith, length-append (text t p) (texts ts (next p))))
  ]
]

-- where a count doesn't fit, nor does the size, unless an item has no bytes
pub unfit : (k : Container) (ts : Terms) → EverywhereIn IsValue ts → AreSound ts (first_place k)
    → (2 ^ 32 ≤ 4 + length (texts ts (first_place k))) ⊎ (2 ^ 32 ≤ count ts)
    → (2 ^ 32 ≤ 4 + length (texts ts (first_place k))) ⊎ ((2 ^ 32 ≤ count ts) × IsItem (kept []) ts)
unfit k ts v s (inl h) = inl h
unfit k ts v s (inr h) = elim (items_taken ts (first_place k) v s) [
  | inr j ↦ inr (h, j)
  | inl j ↦ inl (omega arith)
]
