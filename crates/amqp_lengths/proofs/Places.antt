-- Where a fault is, there are no more bytes than there are in all.
use Rattle.std.proofs.Common.{◌≡◌, ℕ, ◌+◌, ◌^◌, ◌<◌, ◌≤◌, Result, Ok, Err, IfErr, List, [], ◌∷◌, ◌++◌, length, ap, ◌∙◌, arith}
use Rattle.std.specs.Int.{bytes_high_first}
use Rattle.std.proofs.lemmas.List.{length-append}
use Rattle.amqp_wire.specs.declared.error.Error.{Error}
use Rattle.amqp_model.specs.Term.{Container, array}
use Rattle.amqp_lengths.specs.Fronts.{Behind}
use Rattle.amqp_lengths.specs.Contents.{IsContent}
use Rattle.amqp_lengths.specs.Lengths.{Constructs}
use Rattle.amqp_lengths.specs.Faults.{ConstructorFault, constructor_ends, constructor_unknown, constructor_long, constructor_descriptor}
use Rattle.amqp_lengths.specs.Faults.{TermFault, term_constructor, term_nests, term_data, DataFault, data_of_primitive, data_of_container}
use Rattle.amqp_lengths.specs.Faults.{data_of_array, ContainerFault, container_content, container_deep, container_unpaired, container_items}
use Rattle.amqp_lengths.specs.Faults.{ItemsFault, items_fault, items_over, ArrayFault, array_content, array_elements, ElementsFault}
use Rattle.amqp_lengths.specs.Faults.{elements_missing, elements_constructor, elements_over, elements_empty, elements_deep, elements_data}
use Rattle.amqp_lengths.specs.Faults.{SharedFault, shared_fault, shared_over}

behind_less : (P : List ℕ → Type 0) (input after : List ℕ) (h : Behind P input after) → length after + length h.front ≡ length input
behind_less P input after h = omega (arith, ap length h.is, length-append h.front after)

-- a constructor has its code
constructs_long : (n c : ℕ) (b : List ℕ) → Constructs n c b → 1 ≤ length b
constructs_long n c b ([], l, few, (s, k)) = omega (arith, ap length s)
constructs_long n c b (d ∷ ds, l, few, (x, y, s, names, k)) = omega (arith, ap length s)

code_less : (n c : ℕ) (input after : List ℕ) → Behind (Constructs n c) input after → 1 + length after ≤ length input
code_less n c input after h = omega (arith, behind_less _ input after h, constructs_long n c h.front h.spelled)

-- the items are a part of the content
pub items_length : (kind : Container) (w n : ℕ) (items b : List ℕ) → IsContent kind w n items b → length items ≤ length b
items_length kind w n items b (k, size, content, is, same, fits, room, s) =
    let l = ap length s ∙ length-append (bytes_high_first w size) (bytes_high_first w n ++ content) in
    let l2 = length-append (bytes_high_first w n) content in
    omega (arith, l, l2, ap length same)

content_less : (kind : Container) (w n : ℕ) (items input after : List ℕ) → Behind (IsContent kind w n items) input after
    → length items + length after ≤ length input
content_less kind w n items input after h =
    omega (arith, behind_less _ input after h, items_length kind w n items h.front h.spelled)

pub constructor_within : (input : List ℕ) (e : Error) (at : ℕ) → ConstructorFault input e at → at ≤ length input
constructor_within input e at (constructor_ends n few h) = omega arith
constructor_within input e at (constructor_unknown n c after few h some none) = omega (arith, behind_less _ input (c ∷ after) h)
constructor_within input e at (constructor_long after h) = omega (arith, behind_less _ input (0 ∷ after) h)
constructor_within input e at (constructor_descriptor n after x few h f) = omega (arith, behind_less _ input (0 ∷ after) h)

mutual
  pub term_within : {deep : Error} (k : ℕ) (input : List ℕ) (e : Error) (at : ℕ) → TermFault deep k input e at → at ≤ length input
  term_within k input e at (term_constructor j b x l h) = constructor_within b x l h
  term_within k input e at (term_nests j b n c after h deep) = omega arith
  term_within k input e at (term_data j b x n c inner l after h is f) =
      omega (arith, code_less n c b after h, data_within 1 c inner after x l f)

  data_within : {deep : Error} (own c k : ℕ) (input : List ℕ) (e : Error) (at : ℕ) → DataFault deep own c k input e at → at ≤ own + length input
  data_within own c k input e at (data_of_primitive o z j b x h) = omega arith
  data_within own c k input e at (data_of_container o z j b x l kind w is other h) = container_within o kind w j b x l h
  data_within own c k input e at (data_of_array o z j b x l w is h) = array_within o w j b x l h

  container_within : {deep : Error} (own : ℕ) (kind : Container) (w k : ℕ) (input : List ℕ) (e : Error) (at : ℕ)
      → ContainerFault deep own kind w k input e at → at ≤ own + length input
  container_within own kind w k input e at (container_content o i v j b x h) = omega arith
  container_within own kind w k input e at (container_deep o i v j b after h none) = omega arith
  container_within own kind w k input e at (container_unpaired o i v j b n items after h odd) = omega arith
  container_within own kind w k input e at (container_items o i v j b x n inner l items after h is f) =
      omega (arith, content_less i v n items b after h, items_within inner n items x l f)

  pub items_within : {deep : Error} (k n : ℕ) (content : List ℕ) (e : Error) (at : ℕ) → ItemsFault deep k n content e at → at ≤ length content
  items_within k n content e at (items_fault j i b x done l after less h f) = omega (arith, behind_less _ b after h, term_within j after x l f)
  items_within k n content e at (items_over j i b after h some) = omega (arith, behind_less _ b after h)

  array_within : {deep : Error} (own w k : ℕ) (input : List ℕ) (e : Error) (at : ℕ) → ArrayFault deep own w k input e at
      → at ≤ own + length input
  array_within own w k input e at (array_content o v j b x h) = omega arith
  array_within own w k input e at (array_elements o v j b x n l items after h f) =
      omega (arith, content_less array v n items b after h, elements_within j n items x l f)

  pub elements_within : {deep : Error} (k n : ℕ) (content : List ℕ) (e : Error) (at : ℕ) → ElementsFault deep k n content e at
      → at ≤ length content
  elements_within k n content e at (elements_missing j i b none some) = omega arith
  elements_within k n content e at (elements_constructor j i b x l some h) = constructor_within b x l h
  elements_within k n content e at (elements_over j i b m c after h none some) = omega (arith, behind_less _ b after h)
  elements_within k n content e at (elements_empty j i b m c after h some wide) = omega arith
  elements_within k n content e at (elements_deep j i b m c after h some deep) = omega arith
  elements_within k n content e at (elements_data j i b x m c inner l after h some is f) =
      omega (arith, behind_less _ b after h, shared_within c inner i after x l f)

  shared_within : {deep : Error} (c k n : ℕ) (content : List ℕ) (e : Error) (at : ℕ) → SharedFault deep c k n content e at → at ≤ length content
  shared_within c k n content e at (shared_fault z j i b x done l after less h f) =
      omega (arith, behind_less _ b after h, data_within 0 z j after x l f)
  shared_within c k n content e at (shared_over z j i b after h some) = omega (arith, behind_less _ b after h)

-- the place of what a container holds is a number with what is behind the container
pub room : {T : Type 0} (P : Error → Type 0) (at most behind : ℕ) (r : Result T Error) → ((e : Error) → P e → at ≤ most)
    → most + behind < 2 ^ 64 → IfErr r P → IfErr r (λ x. at + behind < 2 ^ 64)
room P at most behind (Ok x) f few h = tt
room P at most behind (Err e) f few h = let n = f e h in omega (arith, n, few)
