-- A fault of bytes stands in them where terms may nest deeper, too, unless it is that they nest too deep.
use Rattle.std.proofs.Common.{◌≡◌, ℕ, zero, suc, ◌+◌, ◌-◌, ◌≤◌, List, length, refl, sym, ap, ◌∙◌, subst, arith}
use Rattle.amqp_wire.specs.declared.error.Error.{Error}
use Rattle.amqp_model.specs.Term.{Container}
use Rattle.amqp_lengths.specs.Fronts.{Behind}
use Rattle.amqp_lengths.specs.Lengths.{IsTerm, IsData, Row}
use Rattle.amqp_lengths.specs.Faults.{inside, HasFault, TermFault, term_constructor, term_nests, term_data, DataFault, data_of_primitive}
use Rattle.amqp_lengths.specs.Faults.{data_of_container, data_of_array, ContainerFault, container_content, container_deep}
use Rattle.amqp_lengths.specs.Faults.{container_unpaired, container_items, ItemsFault, items_fault, items_over, ArrayFault, array_content}
use Rattle.amqp_lengths.specs.Faults.{array_elements, ElementsFault, elements_missing, elements_constructor, elements_over, elements_empty}
use Rattle.amqp_lengths.specs.Faults.{elements_deep, elements_data, SharedFault, shared_fault, shared_over}

pub row_part : (P Q : List ℕ → Type 0) → ((b : List ℕ) → P b → Q b) → (n : ℕ) (b : List ℕ) → Row P n b → Row Q n b
row_part P Q f zero b r = r
row_part P Q f (suc n) b (first, second, e, p, r) = (first, second, e, f first p, row_part P Q f n second r)

pub behind_part : (P Q : List ℕ → Type 0) (input after : List ℕ) → ((b : List ℕ) → P b → Q b) → Behind P input after → Behind Q input after
behind_part P Q input after f h = record { front = h.front; is = h.is; spelled = f h.front h.spelled }

terms_deeper : (k l n : ℕ) (input after : List ℕ) → k ≤ l → Behind (Row (IsTerm k) n) input after → Behind (Row (IsTerm l) n) input after
terms_deeper k l n input after more h =
    behind_part (Row (IsTerm k) n) (Row (IsTerm l) n) input after
    (row_part (IsTerm k) (IsTerm l) (λ b (t, s, deep). (t, s, omega (arith, deep, more))) n) h

data_row_deeper : (c k l n : ℕ) (input after : List ℕ) → k ≤ l → Behind (Row (IsData c k) n) input after
    → Behind (Row (IsData c l) n) input after
data_row_deeper c k l n input after more h =
    behind_part (Row (IsData c k) n) (Row (IsData c l) n) input after
    (row_part (IsData c k) (IsData c l) (λ b (t, s, deep). (t, s, omega (arith, deep, more))) n) h

-- two errors for values that nest too deep, of which a container answers the first as it is
module _ (deep other : Error) (keeps : inside deep ≡ deep) where
  mutual
    term_deeper : (k l : ℕ) (b : List ℕ) (e : Error) (at : ℕ) → k ≤ l → (e ≡ deep → (k ≡ l) × (deep ≡ other)) → TermFault deep k b e at
        → TermFault other l b e at
    term_deeper k l b e at more same (term_constructor j a x y h) = term_constructor l a x y h
    term_deeper k l b e at more same (term_nests j a n c after h deep) = let s = same refl in
        subst (λ x. TermFault other l a x (length a)) (sym s.1) (term_nests l a n c after h (omega (arith, s.0, deep)))
    term_deeper k l b e at more same (term_data j a x n c inner y after h is f) =
        let most = inner + (l - j) in
        let g = data_deeper 1 c inner most after x y (omega arith) (λ d. let s = same d in (omega (arith, s.0), s.1)) f in
        term_data l a x n c most y after h (omega (arith, is, more)) g

    data_deeper : (own c k l : ℕ) (b : List ℕ) (e : Error) (at : ℕ) → k ≤ l → (e ≡ deep → (k ≡ l) × (deep ≡ other))
        → DataFault deep own c k b e at → DataFault other own c l b e at
    data_deeper own c k l b e at more same (data_of_primitive o z j a x h) = data_of_primitive o z l a x h
    data_deeper own c k l b e at more same (data_of_container o z j a x y kind w is other h) =
        data_of_container o z l a x y kind w is other (container_deeper o kind w j l a x y more same h)
    data_deeper own c k l b e at more same (data_of_array o z j a x y w is h) = data_of_array o z l a x y w is (array_deeper o w j l a x y more same h)

    container_deeper : (own : ℕ) (kind : Container) (w k l : ℕ) (b : List ℕ) (e : Error) (at : ℕ) → k ≤ l
        → (e ≡ deep → (k ≡ l) × (deep ≡ other)) → ContainerFault deep own kind w k b e at → ContainerFault other own kind w l b e at
    container_deeper own kind w k l b e at more same (container_content o i v j a x h) = container_content o i v l a x h
    container_deeper own kind w k l b e at more same (container_deep o i v j a after h none) =
        let s = same refl in
        subst (λ x. ContainerFault other o i v l a x (o + length a)) (sym s.1) (container_deep o i v l a after h (omega (arith, s.0, none)))
    container_deeper own kind w k l b e at more same (container_unpaired o i v j a n items after h odd) =
        container_unpaired o i v l a n items after h odd
    container_deeper own kind w k l b e at more same (container_items o i v j a x n inner y items after h is f) =
        let most = inner + (l - j) in
        let g = items_deeper inner most n items x y (omega arith) (λ d. let s = same d in (omega (arith, s.0), s.1)) f in
        container_items o i v l a x n most y items after h (omega (arith, is, more)) g

    items_deeper : (k l n : ℕ) (content : List ℕ) (e : Error) (at : ℕ) → k ≤ l → (e ≡ deep → (k ≡ l) × (deep ≡ other))
        → ItemsFault deep k n content e at → ItemsFault other l n content e at
    items_deeper k l n content e at more same (items_fault j m a x done y after less h f) =
        items_fault l m a x done y after less (terms_deeper j l done a after more h) (term_deeper j l after x y more (λ d. same (ap inside d ∙ keeps)) f)
    items_deeper k l n content e at more same (items_over j m a after h some) = items_over l m a after (terms_deeper j l m a after more h) some

    array_deeper : (own w k l : ℕ) (b : List ℕ) (e : Error) (at : ℕ) → k ≤ l → (e ≡ deep → (k ≡ l) × (deep ≡ other))
        → ArrayFault deep own w k b e at → ArrayFault other own w l b e at
    array_deeper own w k l b e at more same (array_content o v j a x h) = array_content o v l a x h
    array_deeper own w k l b e at more same (array_elements o v j a x n y items after h f) =
        array_elements o v l a x n y items after h (elements_deeper j l n items x y more same f)

    elements_deeper : (k l n : ℕ) (content : List ℕ) (e : Error) (at : ℕ) → k ≤ l → (e ≡ deep → (k ≡ l) × (deep ≡ other))
        → ElementsFault deep k n content e at → ElementsFault other l n content e at
    elements_deeper k l n content e at more same (elements_missing j m a none some) = elements_missing l m a none some
    elements_deeper k l n content e at more same (elements_constructor j m a x y some h) = elements_constructor l m a x y some h
    elements_deeper k l n content e at more same (elements_over j m a i c after h none some) = elements_over l m a i c after h none some
    elements_deeper k l n content e at more same (elements_empty j m a i c after h some wide) = elements_empty l m a i c after h some wide
    elements_deeper k l n content e at more same (elements_deep j m a i c after h some deep) =
        let s = same refl in
        subst (λ x. ElementsFault other l m a x (length a)) (sym s.1) (elements_deep l m a i c after h some (omega (arith, s.0, deep)))
    elements_deeper k l n content e at more same (elements_data j m a x i c inner y after h some is f) =
        let most = inner + (l - j) in
        let g = shared_deeper c inner most m after x y (omega arith) (λ d. let s = same d in (omega (arith, s.0), s.1)) f in
        elements_data l m a x i c most y after h some (omega (arith, is, more)) g

    shared_deeper : (c k l n : ℕ) (content : List ℕ) (e : Error) (at : ℕ) → k ≤ l → (e ≡ deep → (k ≡ l) × (deep ≡ other))
        → SharedFault deep c k n content e at → SharedFault other c l n content e at
    shared_deeper c k l n content e at more same (shared_fault z j m a x done y after less h f) =
        let g = data_deeper 0 z j l after x y more (λ d. same (ap inside d ∙ keeps)) f in
        shared_fault z l m a x done y after less (data_row_deeper z j l done a after more h) g
    shared_deeper c k l n content e at more same (shared_over z j m a after h some) =
        shared_over z l m a after (data_row_deeper z j l m a after more h) some

  -- a fault under a bound is one under a greater bound
  pub fault_deeper : (nesting more : ℕ) (b : List ℕ) (e : Error) (at : ℕ) → nesting ≤ more → (e ≡ deep → (nesting ≡ more) × (deep ≡ other))
      → TermFault deep nesting b e at → TermFault other more b e at
  fault_deeper nesting more b e at least same h = term_deeper nesting more b e at least same h

  -- likewise, wherever it stands
  pub has_deeper : (nesting more : ℕ) (b : List ℕ) (e : Error) → nesting ≤ more → (e ≡ deep → (nesting ≡ more) × (deep ≡ other))
      → HasFault deep nesting b e → HasFault other more b e
  has_deeper nesting more b e least same h = (h.0, term_deeper nesting more b e h.0 least same h.1)
