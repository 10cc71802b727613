-- Bytes in which a fault stands begin with no term.
use Rattle.std.proofs.Common.{◌≡◌, ℕ, zero, suc, ◌+◌, ◌-◌, ◌^◌, ◌<◌, inl, inr, Option, Some, None, unwrap_or, List, [], ◌∷◌, ◌++◌, length}
use Rattle.std.proofs.Common.{take, drop, refl, sym, ap, ◌∙◌, subst, arith, append_assoc, append-nil}
use Rattle.std.proofs.lemmas.List.{length-append, take_at, drop_at}
use Rattle.std.specs.Int.{bytes_high_first}
use Rattle.amqp_wire.specs.declared.error.Error.{Error}
use Rattle.amqp_model.specs.Term.{Primitive, char, string, symbol, Container, list, map, array}
use Rattle.amqp_model.specs.Constructors.{Format, fixed, variable, compound, unknown, format}
use Rattle.amqp_model.specs.Spelling.{IsKnown, IsValid, IsSize}
use Rattle.amqp_model.proofs.Bytes.{front, rest}
use Rattle.amqp_lengths.specs.Fronts.{Behind, Refuses}
use Rattle.amqp_lengths.specs.Pieces.{value_of, IsPrimitive, HoldsBytes, PrimitiveOf, NamesAny, IsDescriptorCode}
use Rattle.amqp_lengths.specs.Contents.{IsContent, HasContent}
use Rattle.amqp_lengths.specs.Lengths.{HasMarks, Constructs, HasConstructor, IsTerm, IsData, Row, IsContainer, IsArray, HasElements}
use Rattle.amqp_lengths.specs.Lengths.{levels_of}
use Rattle.amqp_lengths.specs.Faults.{ValueFault, PrimitiveFault, primitive_wanting, primitive_no_value, DescriptorFault}
use Rattle.amqp_lengths.specs.Faults.{descriptor_missing, descriptor_other, descriptor_unknown, descriptor_data, ConstructorFault}
use Rattle.amqp_lengths.specs.Faults.{constructor_ends, constructor_unknown, constructor_long, constructor_descriptor, ContentFault}
use Rattle.amqp_lengths.specs.Faults.{content_wanting, content_small, content_counted, HasFault, TermFault, term_constructor, term_nests, term_data}
use Rattle.amqp_lengths.specs.Faults.{DataFault, data_of_primitive, data_of_container, data_of_array, ContainerFault, container_content}
use Rattle.amqp_lengths.specs.Faults.{container_deep, container_unpaired, container_items, ItemsFault, items_fault, items_over, ArrayFault}
use Rattle.amqp_lengths.specs.Faults.{array_content, array_elements, ElementsFault, elements_missing, elements_constructor, elements_over}
use Rattle.amqp_lengths.specs.Faults.{elements_empty, elements_deep, elements_data, SharedFault, shared_fault, shared_over}
use Rattle.amqp_lengths.proofs.Announced.{primitive_announced, container_announced, size_same, announced_wants}
use Rattle.amqp_lengths.proofs.Values.{AnyData, same_content}
use Rattle.amqp_lengths.proofs.Fronts.{refuses_part}
use Rattle.amqp_lengths.proofs.Rows.{Once}
use Rattle.amqp_lengths.proofs.Descriptors.{mark_short, mark_other, marks_refuse, no_code, too_many, no_name, no_end}
use Rattle.amqp_lengths.proofs.Terms.{term_unbegun, term_deep, term_short, term_once, data_once}
use Rattle.amqp_lengths.proofs.Containers.{container_unbegun, container_odd, container_bad, array_unbegun, array_bad, data_list, data_map}
use Rattle.amqp_lengths.proofs.Containers.{data_array, data_primitive}
use Rattle.amqp_lengths.proofs.Elements.{elements_unbegun, elements_some, elements_surplus, elements_rows}

-- what stands in front, by how many bytes it is
record Taken (P : List ℕ → Type 0) (input after : List ℕ) : Type 0 where
  pub len : ℕ
  pub spelled : P (take len input)
  pub behind : drop len input ≡ after

taken : (P : List ℕ → Type 0) (input after : List ℕ) → Behind P input after → Taken P input after
taken P input after b = record {
  len = length b.front;
  spelled = subst P (sym (ap (take (length b.front)) b.is ∙ take_at b.front after (length b.front) refl)) b.spelled;
  behind = ap (drop (length b.front)) b.is ∙ drop_at b.front after (length b.front) refl;
}

-- two fronts of an input that goes on
regrouped : (P : List ℕ → Type 0) (input after more b y : List ℕ) (h : Behind P input after) → input ++ more ≡ b ++ y
    → h.front ++ (after ++ more) ≡ b ++ y
regrouped P input after more b y h is = sym (append_assoc h.front after more) ∙ ap (λ l. l ++ more) (sym h.is) ∙ is

-- an input that ends
ended : (input more b y : List ℕ) → more ≡ [] → input ++ more ≡ b ++ y → input ≡ b ++ y
ended input more b y none is = sym (append-nil input) ∙ ap (λ l. input ++ l) (sym none) ∙ is

value_bad : (o : Option Primitive) (e : Error) → ValueFault o e → (p : Primitive) → o ≡ Some p → IsValid p → ⊥
value_bad None e h p is ok = absurd (cc)
value_bad (Some (char n)) e h p is ok = h.0 (subst IsValid (sym (ap (λ o. unwrap_or o p) is)) ok)
value_bad (Some (string s)) e h p is ok = h.0 (subst IsValid (sym (ap (λ o. unwrap_or o p) is)) ok)
value_bad (Some (symbol s)) e h p is ok = h.0 (subst IsValid (sym (ap (λ o. unwrap_or o p) is)) ok)
value_bad (Some q) e h p is ok = absurd h

no_value : (F : Format) (content input after : List ℕ) (e : Error) → Behind (HoldsBytes F content) input after
    → ValueFault (value_of F content) e → Refuses (AnyData F) input e
no_value (fixed w value) content input after e h bad = record {
  none = λ more m b y is (p, (l, d, ok)).
      let (k, s) = h.spelled in
      let same : h.front ≡ b = front h.front b (after ++ more) y (ap length s ∙ k ∙ sym l) (regrouped _ input after more b y h is) in
      value_bad (value content) e bad p (ap value (sym s ∙ same) ∙ d) ok;
}
no_value (variable w value) content input after e h bad = record {
  none = λ more m b y is (p, (content', fits, s, d, ok)).
      let same = same_content w content content' h.front b (after ++ more) y h.spelled (fits, s) (regrouped _ input after more b y h is) in
      value_bad (value content) e bad p (ap value same.0 ∙ d) ok;
}
no_value (compound kind w) content input after e h bad = absurd h.spelled
no_value unknown content input after e h bad = absurd h.spelled

primitive_refuses : (F : Format) (input : List ℕ) (e : Error) → PrimitiveFault F input e → Refuses (AnyData F) input e
primitive_refuses F input e (primitive_wanting q h) =
    record { none = λ more m b y is (p, d). announced_wants F b y input (primitive_announced F p b d) (ended input more b y (m refl) is) h }
primitive_refuses F input e (primitive_no_value content after x h bad) = no_value F content input after x h bad

code_known : (c : ℕ) → IsDescriptorCode c → IsKnown (format c)
code_known c (inl e) = subst (λ z. IsKnown (format z)) (sym e) tt
code_known c (inr (inl e)) = subst (λ z. IsKnown (format z)) (sym e) tt
code_known c (inr (inr (inl e))) = subst (λ z. IsKnown (format z)) (sym e) tt
code_known c (inr (inr (inr (inl e)))) = subst (λ z. IsKnown (format z)) (sym e) tt
code_known c (inr (inr (inr (inr e)))) = subst (λ z. IsKnown (format z)) (sym e) tt

descriptor_refuses : (input : List ℕ) (e : Error) → DescriptorFault input e → Refuses NamesAny input e
descriptor_refuses input e (descriptor_missing none) = record {
  none = λ more m b y is (d, (c, bytes, s, k)).
      omega (arith, ap length (ended input more b y (m refl) is), ap length none, ap length s, length-append b y);
}
descriptor_refuses input e (descriptor_other c after is known other) =
    subst (λ l. Refuses NamesAny l e) (sym is) (mark_other c after e other)
descriptor_refuses input e (descriptor_unknown c after is some none) =
    subst (λ l. Refuses NamesAny l e) (sym is) (mark_other c after e (λ k. none (code_known c k)))
descriptor_refuses input e (descriptor_data c after x is code h) =
    subst (λ l. Refuses NamesAny l x) (sym is) (mark_short c after x (primitive_refuses (format c) after x h))

pub constructor_refuses : (input : List ℕ) (e : Error) (at : ℕ) → ConstructorFault input e at → Refuses HasConstructor input e
constructor_refuses input e at (constructor_ends n few h) =
    let t = taken (HasMarks n) input [] h in
    marks_refuse n t.len input [] e t.spelled t.behind (no_end n [] (omega arith))
constructor_refuses input e at (constructor_unknown n c after few h some none) =
    let t = taken (HasMarks n) input (c ∷ after) h in
    marks_refuse n t.len input (c ∷ after) e t.spelled t.behind (no_code n c after e some none)
constructor_refuses input e at (constructor_long after h) =
    let t = taken (HasMarks 128) input (0 ∷ after) h in
    marks_refuse 128 t.len input (0 ∷ after) e t.spelled t.behind (too_many 128 after e refl)
constructor_refuses input e at (constructor_descriptor n after x few h f) =
    let t = taken (HasMarks n) input (0 ∷ after) h in
    marks_refuse n t.len input (0 ∷ after) x t.spelled t.behind (no_name n after x (descriptor_refuses after x f))

too_small : (kind : Container) (w n size : ℕ) (content : List ℕ) → IsSize kind w n content size → size < w
    → ((kind ≡ list) × (size ≡ 0) → ⊥) → ⊥
too_small kind w n size content (inl e) less some = omega arith
too_small kind w n size content (inr (is, _, _, nothing)) less some = some (is, nothing)

below_one : (w n : ℕ) → w ≡ 0 → n < 256 ^ w → n < 1
below_one w n e h = subst (λ x. n < 256 ^ x) e h

no_count : (kind : Container) (w n m size : ℕ) (content : List ℕ) → IsSize kind w n content size → size ≡ 0 → n ≡ m → m < 256 ^ w → 0 < m
    → ⊥
no_count kind w n m size content (inl e) none same few some = let z : w ≡ 0 = omega arith in let h = below_one w m z few in omega arith
no_count kind w n m size content (inr (is, none', _, _)) none same few some = omega arith

content_refuses : (kind : Container) (w : ℕ) (input : List ℕ) (e : Error) → ContentFault kind w input e
    → Refuses (HasContent kind w) input e
content_refuses kind w input e (content_wanting h) = record {
  none = λ more m b y is (n, items, k).
      let whole = container_announced (compound kind w) kind n (λ content. content ≡ items) b k in
      announced_wants (compound kind w) b y input whole (ended input more b y (m refl) is) h;
}
content_refuses kind w input e (content_small (size, after, fits, here, (enough, less, some))) = record {
  none = λ more m b y is (n, items, (k, size', content, sized, same, fits', room, s)).
      let one = (size_same w size size' after (bytes_high_first w n ++ content) input b more y fits fits' here s is).0 in
      too_small kind w n size content (subst (IsSize kind w n content) (sym one) sized) less some;
}
content_refuses kind w input e (content_counted k (size, after, fits, here, (nothing, (count, behind, few, there, some)))) = record {
  none = λ more m b y is (n, items, (j, size', content, sized, same, fits', room, s)).
      let one = size_same w size size' after (bytes_high_first w n ++ content) input b more y fits fits' here s is in
      let two = size_same w count n behind content after (bytes_high_first w n ++ content) more y few room there refl one.1 in
      no_count kind w n count size content (subst (IsSize kind w n content) (sym one.0) sized) nothing (sym two.0) few some;
}

-- what stands behind some pieces of a row
row_behind : (P : List ℕ → Type 0) → Once P → (i n m : ℕ) (a x : List ℕ) → i + m ≡ n → Row P i a → Row P n (a ++ x) → Row P m x
row_behind P once zero n m a x is r h = let same : n ≡ m = omega arith in subst (λ k. Row P k x) same (subst (λ l. Row P n (l ++ x)) r h)
row_behind P once (suc i) zero m a x is r h = absurd (omega arith)
row_behind P once (suc i) (suc n) m a x is (f, s, e, p, r) (f', s', e', p', r') =
    let all : f ++ (s ++ x) ≡ f' ++ s' = sym (append_assoc f s x) ∙ ap (λ l. l ++ x) (sym e) ∙ e' in
    let same : f ≡ f' = once f f' (s ++ x) s' p p' all in
    row_behind P once i n m s x (omega arith) r (subst (Row P n) (sym (rest f f' (s ++ x) s' (ap length same) all)) r')

no_piece : (P : List ℕ → Type 0) (e : Error) (m : ℕ) (after : List ℕ) → 0 < m → Refuses P after e → Row P m after → ⊥
no_piece P e zero after some h r = omega arith
no_piece P e (suc m) after some h (f, s, is, p, r) = h.none [] (λ x. refl) f s (append-nil after ∙ is) p

row_refused : (P : List ℕ → Type 0) → Once P → (i n : ℕ) (content after : List ℕ) (e : Error) → i < n → Behind (Row P i) content after
    → Refuses P after e → Row P n content → ⊥
row_refused P once i n content after e less h f r =
    no_piece P e (n - i) after (omega arith) f
    (row_behind P once i n (n - i) h.front after (omega arith) h.spelled (subst (Row P n) h.is r))

row_over : (P : List ℕ → Type 0) → Once P → (n : ℕ) (content after : List ℕ) → Behind (Row P n) content after → 0 < length after
    → Row P n content → ⊥
row_over P once n content after h some r =
    let none : after ≡ [] = row_behind P once n n 0 h.front after (omega arith) h.spelled (subst (Row P n) h.is r) in
    omega (arith, ap length none)

data_container : (kind : Container) (c w k : ℕ) (b : List ℕ) → (kind ≡ array → ⊥) → format c ≡ compound kind w → IsData c k b
    → IsContainer kind w k b
data_container list c w k b other is h = data_list c w k b is h
data_container map c w k b other is h = data_map c w k b is h
data_container array c w k b other is h = absurd (other refl)

fault_primitive : (F : Format) (input : List ℕ) (e : Error) → PrimitiveFault F input e → IsPrimitive F
fault_primitive F input e (primitive_wanting p h) = p
fault_primitive F input e (primitive_no_value content after x h bad) = holds F content h.front h.spelled
  where
    holds : (F : Format) (content b : List ℕ) → HoldsBytes F content b → IsPrimitive F
    holds (fixed w value) content b h = tt
    holds (variable w value) content b h = tt
    holds (compound kind w) content b h = h
    holds unknown content b h = h

some_bytes : (b : List ℕ) → 0 < length b → b ≡ [] → ⊥
some_bytes b some none = omega (arith, ap length none)

constructs_some : (n c : ℕ) (b : List ℕ) → Constructs n c b → b ≡ [] → ⊥
constructs_some n c b ([], l, few, (s, k)) none = omega (arith, ap length s, ap length none)
constructs_some n c b (d ∷ ds, l, few, (x, y, s, names, k)) none = omega (arith, ap length s, ap length none)

no_bytes : (a b : List ℕ) → a ++ b ≡ [] → a ≡ []
no_bytes [] b e = refl
no_bytes (x ∷ a) b e = absurd (omega (arith, ap length e))

some_content : (n c : ℕ) (b after : List ℕ) → Behind (Constructs n c) b after → b ≡ [] → ⊥
some_content n c b after h none = constructs_some n c h.front h.spelled (no_bytes h.front after (sym h.is ∙ none))

mutual
  term_refuses : {deep : Error} (k : ℕ) (input : List ℕ) (e : Error) (at : ℕ) → TermFault deep k input e at → Refuses (IsTerm k) input e
  term_refuses k input e at (term_constructor k' b x y h) = term_unbegun k' b x (constructor_refuses b x y h)
  term_refuses k input e at (term_nests k' b n c after h deep) =
      let t = taken (Constructs n c) b after h in
      term_deep k' n c t.len b e t.spelled deep
  term_refuses k input e at (term_data k' b x n c left y after h is f) =
      let t = taken (Constructs n c) b after h in
      term_short k' n left c t.len b x t.spelled is
      (subst (λ l. Refuses (IsData c left) l x) (sym t.behind) (data_refuses 1 c left after x y f))

  data_refuses : {deep : Error} (own c k : ℕ) (input : List ℕ) (e : Error) (at : ℕ) → DataFault deep own c k input e at → Refuses (IsData c k) input e
  data_refuses own c k input e at (data_of_primitive o c' k' b x h) =
      refuses_part (IsData c' k') (PrimitiveOf c') b x (λ l d. data_primitive c' k' l (fault_primitive (format c') b x h) d)
      (primitive_refuses (format c') b x h)
  data_refuses own c k input e at (data_of_container o c' k' b x y kind w is other h) =
      refuses_part (IsData c' k') (IsContainer kind w k') b x (λ l d. data_container kind c' w k' l other is d)
      (container_refuses o kind w k' b x y h)
  data_refuses own c k input e at (data_of_array o c' k' b x y w is h) =
      refuses_part (IsData c' k') (IsArray w k') b x (λ l d. data_array c' w k' l is d) (array_refuses o w k' b x y h)

  container_refuses : {deep : Error} (own : ℕ) (kind : Container) (w k : ℕ) (input : List ℕ) (e : Error) (at : ℕ)
      → ContainerFault deep own kind w k input e at → Refuses (IsContainer kind w k) input e
  container_refuses own kind w k input e at (container_content o j v m b x h) = container_unbegun j v m b x (content_refuses j v b x h)
  container_refuses own kind w k input e at (container_deep o j v m b after h none) =
      record { none = λ more f l y is (ts, deep, pairs, d). omega (arith, deep, none) }
  container_refuses own kind w k input e at (container_unpaired o j v m b n items after h odd) =
      let t = taken (IsContent j v n items) b after h in
      container_odd j v m n t.len items b e t.spelled odd
  container_refuses own kind w k input e at (container_items o j v m b x n left y items after h is f) =
      let t = taken (IsContent j v n items) b after h in
      container_bad j v m left n t.len items b x t.spelled is (items_refused left n items x y f)

  items_refused : {deep : Error} (k n : ℕ) (content : List ℕ) (e : Error) (at : ℕ) → ItemsFault deep k n content e at → Row (IsTerm k) n content → ⊥
  items_refused k n content e at (items_fault k' m b x done y after less h f) r =
      row_refused (IsTerm k') (term_once k') done m b after x less h (term_refuses k' after x y f) r
  items_refused k n content e at (items_over k' m b after h some) r = row_over (IsTerm k') (term_once k') m b after h some r

  array_refuses : {deep : Error} (own w k : ℕ) (input : List ℕ) (e : Error) (at : ℕ) → ArrayFault deep own w k input e at → Refuses (IsArray w k) input e
  array_refuses own w k input e at (array_content o v m b x h) = array_unbegun v m b x (content_refuses array v b x h)
  array_refuses own w k input e at (array_elements o v m b x n y items after h f) =
      let t = taken (IsContent array v n items) b after h in
      array_bad v m n t.len items b x t.spelled (elements_refused m n items x y f)

  elements_refused : {deep : Error} (k n : ℕ) (content : List ℕ) (e : Error) (at : ℕ) → ElementsFault deep k n content e at → HasElements k n content → ⊥
  elements_refused k n content e at (elements_missing k' j b none some) r = elements_some k' j b none (λ z. omega arith) r
  elements_refused k n content e at (elements_constructor k' j b x y some h) r =
      elements_unbegun k' j b x (some_bytes b some) (constructor_refuses b x y h) r
  elements_refused k n content e at (elements_over k' j b m c after h none some) r =
      let t = taken (Constructs m c) b after h in
      let over : drop t.len b ≡ [] → ⊥ = λ z. some_bytes after some (sym t.behind ∙ z) in
      elements_surplus k' m c t.len b (some_content m c b after h) t.spelled over (subst (λ i. HasElements k' i b) none r)
  elements_refused k n content e at (elements_empty k' j b m c after h some wide) r =
      let t = taken (Constructs m c) b after h in
      (elements_rows k' m c j t.len b (some_content m c b after h) t.spelled (λ z. omega arith) r).0 wide
  elements_refused k n content e at (elements_deep k' j b m c after h some deep) r =
      let t = taken (Constructs m c) b after h in
      let few = (elements_rows k' m c j t.len b (some_content m c b after h) t.spelled (λ z. omega arith) r).1 in omega (arith, few, deep)
  elements_refused k n content e at (elements_data k' j b x m c left y after h some is f) r =
      let t = taken (Constructs m c) b after h in
      let rows = (elements_rows k' m c j t.len b (some_content m c b after h) t.spelled (λ z. omega arith) r).2 in
      let same : k' - levels_of m c ≡ left = omega (arith, is) in
      let there : Row (IsData c (k' - levels_of m c)) j after = subst (λ l. Row (IsData c (k' - levels_of m c)) j l) t.behind rows in
      shared_refused c left j after x y f (subst (λ i. Row (IsData c i) j after) same there)

  shared_refused : {deep : Error} (c k n : ℕ) (content : List ℕ) (e : Error) (at : ℕ) → SharedFault deep c k n content e at → Row (IsData c k) n content → ⊥
  shared_refused c k n content e at (shared_fault c' k' m b x done y after less h f) r =
      row_refused (IsData c' k') (data_once c' k') done m b after x less h (data_refuses 0 c' k' after x y f) r
  shared_refused c k n content e at (shared_over c' k' m b after h some) r = row_over (IsData c' k') (data_once c' k') m b after h some r

-- a fault that stands in the bytes refuses each term that could begin so
pub fault_refuses : {deep : Error} (nesting : ℕ) (input : List ℕ) (e : Error) → HasFault deep nesting input e → Refuses (IsTerm nesting) input e
fault_refuses nesting input e h = term_refuses nesting input e h.0 h.1
