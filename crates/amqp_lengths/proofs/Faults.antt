-- The faults that the errors of each function name.
use Rattle.std.proofs.Common.{◌≡◌, ℕ, zero, suc, ◌+◌, ◌-◌, ◌<◌, ◌≤◌, ◌⊎◌, inl, inr, Result, Ok, Err, IfErr, List, [], ◌∷◌, ◌++◌, length}
use Rattle.std.proofs.Common.{take, drop, Option, Some, None, unwrap_or, refl, sym, ap, ◌∙◌, subst, subst₂, arith, append_assoc}
use Rattle.std.proofs.lemmas.List.{take-append-drop, length-drop, length-append, length-take-le}
use Rattle.std.specs.Option.{MatchOption}
use Rattle.std.specs.Int.{bytes_high_first}
use Rattle.amqp_wire.specs.declared.error.Error.{Error}
use Rattle.amqp_wire.specs.declared.error.Error.TheVariants.{Cut, Size, BadDescriptor}
use Rattle.amqp_wire.specs.Codes.{refusal_of}
use Rattle.amqp_model.specs.Term.{Primitive, Container, list, array}
use Rattle.amqp_model.specs.Constructors.{Format, fixed, variable, compound, format}
use Rattle.amqp_model.specs.Spelling.{IsKnown}
use Rattle.amqp_lengths.specs.Fronts.{IsFront, Behind}
use Rattle.amqp_lengths.specs.Pieces.{IsNumber, IsSized, IsPrimitive, value_of, HoldsBytes, IsDescriptorCode}
use Rattle.amqp_lengths.specs.Announced.{SizeThen, content_size, WantsSized, Wants}
use Rattle.amqp_lengths.specs.Lengths.{IsTerm, IsData, Row, Constructs}
use Rattle.amqp_lengths.specs.Faults.{ValueFault, PrimitiveFault, primitive_wanting, primitive_no_value, DescriptorFault, descriptor_other}
use Rattle.amqp_lengths.specs.Faults.{descriptor_unknown, ContentFault, content_wanting, content_small, content_counted, inside, TermFault}
use Rattle.amqp_lengths.specs.Faults.{DataFault, ItemsFault, items_fault, items_over, SharedFault, shared_fault, shared_over}
use Rattle.amqp_lengths.specs.Faults.{ConstructorFault, ElementsFault, elements_constructor, elements_over, ContainerFault, container_items, ArrayFault}
use Rattle.amqp_lengths.specs.Faults.{array_elements}
use Rattle.amqp_lengths.specs.Contents.{IsContent, HasContent}
use Rattle.amqp_lengths.proofs.Fronts.{tail_all}
use Rattle.amqp_lengths.proofs.Rows.{Begins, no_bytes}

-- what a front leaves
pub behind_taken : (P : List ℕ → Type 0) (input : List ℕ) (n : ℕ) → P (take n input) → Behind P input (drop n input)
behind_taken P input n h = record { front = take n input; is = sym (take-append-drop n input); spelled = h }

pub behind_front : (P : List ℕ → Type 0) (input : List ℕ) (n : ℕ) → IsFront P input n → Behind P input (drop n input)
behind_front P input n h = behind_taken P input n h.spelled

pub behind_at : (P : List ℕ → Type 0) (input : List ℕ) (n : ℕ) (after : List ℕ) → P (take n input)
    → drop n input ≡ after → Behind P input after
behind_at P input n after h e = subst (Behind P input) e (behind_taken P input n h)

-- a size that announces more than there is
size_then : (w n : ℕ) (input : List ℕ) (P : ℕ → List ℕ → Type 0) → IsFront (IsNumber w n) input w → P n (drop w input) → SizeThen w P input
size_then w n input P h p =
    let (fits, is) = h.spelled in (n, drop w input, fits, sym (take-append-drop w input) ∙ ap (λ l. l ++ drop w input) is, p)

pub sized_cut : (w n : ℕ) (input : List ℕ) → IsFront (IsNumber w n) input w → length input < w + n → WantsSized w (λ size. size) input
sized_cut w n input h few = inr (size_then w n input (λ size behind. length behind < size) h (omega (arith, length-drop w input, h.within)))

-- the data of primitives
primitive_cut : (F G : Format) (input : List ℕ) (e : Error) → F ≡ G → IsPrimitive G → e ≡ Cut → Wants G input → PrimitiveFault F input e
primitive_cut F G input e is p c h =
    subst (PrimitiveFault F input) (sym c) (primitive_wanting (subst IsPrimitive (sym is) p) (subst (λ H. Wants H input) (sym is) h))

pub fixed_cut : (F : Format) (w : ℕ) (value : List ℕ → Option Primitive) (input : List ℕ) (e : Error) → F ≡ fixed w value
    → (e ≡ Cut) × (length input < w) → PrimitiveFault F input e
fixed_cut F w value input e is h = primitive_cut F (fixed w value) input e is tt h.0 h.1

pub variable_cut : (F : Format) (w : ℕ) (value : List ℕ → Option Primitive) (input : List ℕ) (e : Error) → F ≡ variable w value
    → (e ≡ Cut) × WantsSized w (λ size. size) input → PrimitiveFault F input e
variable_cut F w value input e is h = primitive_cut F (variable w value) input e is tt h.0 h.1

pub fixed_no_value : (F : Format) (w : ℕ) (value : List ℕ → Option Primitive) (input : List ℕ) (e : Error) → F ≡ fixed w value
    → w ≤ length input → ValueFault (value_of F (take w input)) e → PrimitiveFault F input e
fixed_no_value F w value input e is few h =
    let held : HoldsBytes (fixed w value) (take w input) (take w input) = (length-take-le w input few, refl) in
    primitive_no_value (take w input) (drop w input) e
    (behind_taken (HoldsBytes F (take w input)) input w (subst (λ G. HoldsBytes G (take w input) (take w input)) (sym is) held)) h

pub variable_no_value : (F : Format) (w : ℕ) (value : List ℕ → Option Primitive) (content input : List ℕ) (n : ℕ) (e : Error)
    → F ≡ variable w value → IsFront (IsSized w content) input n → ValueFault (value_of F content) e → PrimitiveFault F input e
variable_no_value F w value content input n e is found h =
    primitive_no_value content (drop n input) e
    (behind_taken (HoldsBytes F content) input n (subst (λ G. HoldsBytes G content (take n input)) (sym is) found.spelled)) h

-- a code that is no descriptor's
pub descriptor_code : (c : ℕ) (after : List ℕ) (o : Option Error) → (IsDescriptorCode c → ⊥)
    → MatchOption o ((c ≡ 0) ⊎ IsKnown (format c)) (λ e. (e ≡ refusal_of c) × (IsKnown (format c) → ⊥) × (c ≡ 0 → ⊥))
    → DescriptorFault (c ∷ after) (unwrap_or o BadDescriptor)
descriptor_code c after None other h = descriptor_other c after refl h other
descriptor_code c after (Some e) other h = subst (DescriptorFault (c ∷ after)) (sym h.0) (descriptor_unknown c after refl h.2 h.1)

-- the content of containers
compound_cut : (kind : Container) (w : ℕ) (input : List ℕ) → WantsSized w (λ size. size) input → Wants (compound kind w) input
compound_cut kind w input (inl few) = inl few
compound_cut kind w input (inr (size, behind, fits, s, few)) = inr (size, behind, fits, s, more kind size few)
  where
    more : (kind : Container) (size : ℕ) → length behind < size → length behind < content_size kind w size
    more list zero few = absurd (omega arith)
    more list (suc n) few = few
    more k n few = few

pub content_cut : (kind : Container) (w : ℕ) (input : List ℕ) (e : Error) → (e ≡ Cut) × WantsSized w (λ size. size) input
    → ContentFault kind w input e
content_cut kind w input e (c, h) = subst (ContentFault kind w input) (sym c) (content_wanting (compound_cut kind w input h))

sized_size : (w n : ℕ) (content input : List ℕ) (P : ℕ → List ℕ → Type 0) → IsFront (IsSized w content) input n
    → P (length content) (content ++ drop n input) → SizeThen w P input
sized_size w n content input P h p =
    let (fits, is) = h.spelled in (
      length content,
      content ++ drop n input,
      fits,
      sym (take-append-drop n input) ∙ ap (λ l. l ++ drop n input) is
          ∙ append_assoc (bytes_high_first w (length content)) content (drop n input),
      p,
    )

-- a size below the width of the count
pub content_short_size : (kind : Container) (w n : ℕ) (content input : List ℕ) → IsFront (IsSized w content) input n → length content < w
    → ((kind ≡ list) × (length content ≡ 0) → ⊥) → ContentFault kind w input Size
content_short_size kind w n content input h small some =
    content_small (sized_size w n content input (λ size behind. (size ≤ length behind) × (size < w) × ((kind ≡ list) × (size ≡ 0) → ⊥)) h
    (omega (arith, length-append content (drop n input)), small, some))

-- the count of an empty list
pub content_no_count : (kind : Container) (w m n : ℕ) (content input : List ℕ) (e : Error) → kind ≡ list
    → IsFront (IsSized w content) input n → length content ≡ 0 → m ≡ n → (e ≡ Cut) × (length (take (length input - m) (drop m input)) < w)
    → ContentFault kind w input e
content_no_count kind w m n content input e is h empty same (c, few) =
    let after : length (drop n input) < w = omega (arith, ap length (tail_all m input), ap (λ k. length (drop k input)) same) in
    subst (λ k. ContentFault k w input e) (sym is)
    (subst (ContentFault list w input) (sym c)
    (content_wanting (inr (sized_size w n content input (λ size behind. length behind < content_size list w size) h
    (subst (λ k. length (content ++ drop n input) < content_size list w k) (sym empty)
    (omega (arith, length-append content (drop n input))))))))

pub content_count : (kind : Container) (w m n count : ℕ) (content input : List ℕ) → kind ≡ list → IsFront (IsSized w content) input n
    → length content ≡ 0 → m ≡ n → IsFront (IsNumber w count) (take (length input - m) (drop m input)) w → 0 < count
    → ContentFault kind w input Size
content_count kind w m n count content input is h empty same k some =
    let behind : take (length input - m) (drop m input) ≡ content ++ drop n input =
    tail_all m input ∙ ap (λ j. drop j input) same ∙ ap (λ l. l ++ drop n input) (sym (no_bytes content empty)) in
    subst (λ j. ContentFault j w input Size) (sym is)
    (content_counted refl (sized_size w n content input (λ size behind. (size ≡ 0) × SizeThen w (λ count after. 0 < count) behind) h (
      empty,
      subst (SizeThen w (λ count after. 0 < count)) behind
          (size_then w count (take (length input - m) (drop m input)) (λ count after. 0 < count) k some),
    )))

-- the pieces of a row, from the answer of a call
abbrev pub Inside : {T : Type 0} → Result T Error → Error → Type 0
Inside r e = (cause : Error) × (r ≡ Err cause) × (e ≡ inside cause)

err_at : {T : Type 0} (P : Error → Type 0) (r : Result T Error) (e : Error) → IfErr r P → r ≡ Err e → P e
err_at P r e h is = subst (λ z. IfErr z P) is h

pub items_bad : {deep : Error} (k n : ℕ) (content : List ℕ) (i len at : ℕ) (r : Result ℕ Error) (e : Error) → i < n → Begins (IsTerm k) n content i len
    → IfErr r (λ x. TermFault deep k (take (length content - len) (drop len content)) x at) → Inside r e → ItemsFault deep k n content e at
items_bad {deep = deep} k n content i len at r e less h f (cause, is, mapped) =
    let fault : TermFault deep k (drop len content) cause at =
    subst (λ l. TermFault deep k l cause at) (tail_all len content) (err_at _ r cause f is) in
    subst (λ x. ItemsFault deep k n content x at) (sym mapped)
    (items_fault k n content cause i at (drop len content) less (behind_taken (Row (IsTerm k) i) content len h.pieces) fault)

pub shared_bad : {deep : Error} (c k n : ℕ) (content : List ℕ) (i len at : ℕ) (r : Result ℕ Error) (e : Error) → i < n → Begins (IsData c k) n content i len
    → IfErr r (λ x. DataFault deep 0 c k (take (length content - len) (drop len content)) x at) → Inside r e → SharedFault deep c k n content e at
shared_bad {deep = deep} c k n content i len at r e less h f (cause, is, mapped) =
    let fault : DataFault deep 0 c k (drop len content) cause at =
    subst (λ l. DataFault deep 0 c k l cause at) (tail_all len content) (err_at _ r cause f is) in
    subst (λ x. SharedFault deep c k n content x at) (sym mapped)
    (shared_fault c k n content cause i at (drop len content) less (behind_taken (Row (IsData c k) i) content len h.pieces) fault)

-- bytes are left over
abbrev pub IsOver : List ℕ → ℕ → ℕ → Error → Type 0
IsOver content len at e = (e ≡ Size) × (0 < at) × (len + at ≡ length content)

over : (len at : ℕ) (content : List ℕ) → len + at ≡ length content → length (drop len content) ≡ at
over len at content all = omega (arith, length-drop len content)

pub items_left : {deep : Error} (k n : ℕ) (content : List ℕ) (i len at : ℕ) (e : Error) → i ≡ n → Begins (IsTerm k) n content i len
    → IsOver content len at e → ItemsFault deep k n content e at
items_left {deep = deep} k n content i len at e all h (is, some, end) =
    subst₂ (ItemsFault deep k n content) (sym is) (over len at content end)
    (items_over k n content (drop len content)
    (behind_taken (Row (IsTerm k) n) content len (subst (λ j. Row (IsTerm k) j (take len content)) all h.pieces))
    (omega (arith, over len at content end, some)))

pub shared_left : {deep : Error} (c k n : ℕ) (content : List ℕ) (i len at : ℕ) (e : Error) → i ≡ n → Begins (IsData c k) n content i len
    → IsOver content len at e → SharedFault deep c k n content e at
shared_left {deep = deep} c k n content i len at e all h (is, some, end) =
    subst₂ (SharedFault deep c k n content) (sym is) (over len at content end)
    (shared_over c k n content (drop len content)
    (behind_taken (Row (IsData c k) n) content len (subst (λ j. Row (IsData c k) j (take len content)) all h.pieces))
    (omega (arith, over len at content end, some)))

pub elements_left : {deep : Error} (k n m c len at : ℕ) (content : List ℕ) (e : Error) → IsFront (Constructs m c) content len → n ≡ 0
    → IsOver content len at e → ElementsFault deep k n content e at
elements_left {deep = deep} k n m c len at content e h none (is, some, end) =
    subst₂ (ElementsFault deep k n content) (sym is) (over len at content end)
    (elements_over k n content m c (drop len content) (behind_front (Constructs m c) content len h) none
    (omega (arith, over len at content end, some)))

pub err_map : {T : Type 0} (P Q : Error → Type 0) (r : Result T Error) → ((e : Error) → P e → Q e) → IfErr r P → IfErr r Q
err_map P Q (Ok x) f h = tt
err_map P Q (Err e) f h = f e h

-- a fault and its place, as a call answers them
pub placed : (P : Error → ℕ → Type 0) {e x : Error} {n m : ℕ} → x ≡ e → m ≡ n → P e n → P x m
placed P is place h = subst₂ P (sym is) (sym place) h

-- what is behind a container is counted with what is left in it
pub container_left : {deep : Error} (own : ℕ) (kind : Container) (w k inner n len : ℕ) (items input : List ℕ) (at place : ℕ) (r : Result Unit Error) (e : Error)
    → IsFront (IsContent kind w n items) input len → k ≡ suc inner → IfErr r (λ x. ItemsFault deep inner n items x at)
    → (r ≡ Err e) × (place ≡ at + (length input - len)) → ContainerFault deep own kind w k input e place
container_left {deep = deep} own kind w k inner n len items input at place r e h deeper f (is, past) =
    let all : at + length (drop len input) ≡ at + (length input - len) = ap (λ z. at + z) (length-drop len input) in
    subst (ContainerFault deep own kind w k input e) (all ∙ sym past)
    (container_items own kind w k input e n inner at items (drop len input) (behind_front _ input len h) deeper (err_at _ r e f is))

pub array_left : {deep : Error} (own w k n len : ℕ) (items input : List ℕ) (at place : ℕ) (r : Result Unit Error) (e : Error)
    → IsFront (IsContent array w n items) input len → IfErr r (λ x. ElementsFault deep k n items x at)
    → (r ≡ Err e) × (place ≡ at + (length input - len)) → ArrayFault deep own w k input e place
array_left {deep = deep} own w k n len items input at place r e h f (is, past) =
    let all : at + length (drop len input) ≡ at + (length input - len) = ap (λ z. at + z) (length-drop len input) in
    subst (ArrayFault deep own w k input e) (all ∙ sym past)
    (array_elements own w k input e n at items (drop len input) (behind_front _ input len h) (err_at _ r e f is))

-- the constructor of an array's items
pub elements_unreadable : {deep : Error} {T : Type 0} (k n : ℕ) (content : List ℕ) (at : ℕ) (r : Result T Error) (e : Error) → 0 < length content
    → IfErr r (λ x. ConstructorFault content x at) → Inside r e → ElementsFault deep k n content e at
elements_unreadable {deep = deep} k n content at r e some f (cause, is, mapped) =
    subst (λ x. ElementsFault deep k n content x at) (sym mapped) (elements_constructor k n content cause at some (err_at _ r cause f is))

pub behind_content : (kind : Container) (w n len : ℕ) (items input : List ℕ) → IsFront (IsContent kind w n items) input len
    → Behind (HasContent kind w) input (drop len input)
behind_content kind w n len items input h = behind_taken (HasContent kind w) input len (n, items, h.spelled)

pub behind_empty : (input : List ℕ) → Behind (HasContent list 0) input input
behind_empty input = record { front = []; is = refl; spelled = (0, [], (refl, 0, [], inl refl, refl, omega arith, omega arith, refl)) }
