-- Where bytes are no term, the error is that they end, or it says so of them.
use Rattle.std.proofs.Common.{◌≡◌, ℕ, ◌⊎◌, inl, inr, ◌∙◌, arith, Bool, true, false, cond, eqb, nat_lt, List, Option, Some, None, refl, sym, subst}
use Rattle.std.proofs.lemmas.Bool.{eqb-true, eq-eqb}
use Rattle.amqp_model.specs.Term.{Primitive, char, string, symbol, Container, array}
use Rattle.amqp_model.specs.Constructors.{Format, fixed, variable, compound, unknown, format}
use Rattle.amqp_model.specs.Spelling.{IsKnown}
use Rattle.amqp_wire.specs.declared.error.Error.{Error}
use Rattle.amqp_wire.specs.declared.error.Error.TheVariants.{Cut, UnknownCode, FloatCode, WrongType, Depth, Limit}
use Rattle.amqp_wire.specs.Codes.{is_known, refusal_of}
use Rattle.amqp_lengths.specs.Pieces.{value_of}
use Rattle.amqp_lengths.specs.Faults.{ValueFault, PrimitiveFault, primitive_wanting, primitive_no_value, DescriptorFault}
use Rattle.amqp_lengths.specs.Faults.{descriptor_missing, descriptor_other, descriptor_unknown, descriptor_data, ConstructorFault}
use Rattle.amqp_lengths.specs.Faults.{constructor_ends, constructor_unknown, constructor_long, constructor_descriptor, ContentFault}
use Rattle.amqp_lengths.specs.Faults.{content_wanting, content_small, content_counted, inside, HasFault, TermFault, term_constructor, term_nests}
use Rattle.amqp_lengths.specs.Faults.{term_data, DataFault, data_of_primitive, data_of_container, data_of_array, ContainerFault}
use Rattle.amqp_lengths.specs.Faults.{container_content, container_deep, container_unpaired, container_items, ItemsFault, items_fault}
use Rattle.amqp_lengths.specs.Faults.{items_over, ArrayFault, array_content, array_elements, ElementsFault, elements_missing}
use Rattle.amqp_lengths.specs.Faults.{elements_constructor, elements_over, elements_empty, elements_deep, elements_data, SharedFault}
use Rattle.amqp_lengths.specs.Faults.{shared_fault, shared_over}
use Rattle.amqp_decoder.specs.State.{depth_error}
use Rattle.amqp_decoder.specs.Misspelled.{IsMisspelling}

yes_no : (b : Bool) → b ≡ true → b ≡ false → ⊥
yes_no b e f = let x : true ≡ false = sym e ∙ f in cc

known_yes : (F : Format) → IsKnown F → is_known F ≡ true
known_yes (fixed w f) h = refl
known_yes (variable w f) h = refl
known_yes (compound k w) h = refl
known_yes unknown h = absurd h

refusal_by : (c : ℕ) (F : Format) (a b d k : Bool) → (c ≡ 0x72 → IsKnown F → ⊥) → (c ≡ 0x82 → IsKnown F → ⊥) → eqb c 0x72 ≡ a
    → eqb c 0x82 ≡ b → eqb c 0 ≡ d → is_known F ≡ k
    → IsMisspelling (cond a (FloatCode c) (cond b (FloatCode c) (cond d (WrongType c) (cond k (WrongType c) (UnknownCode c)))))
    → (c ≡ 0 → ⊥) × (IsKnown F → ⊥)
refusal_by c F true b d k float double e f g i h = let x = eqb-true c 0x72 e in (λ z. omega (arith, z, x), float x)
refusal_by c F false true d k float double e f g i h = let x = eqb-true c 0x82 f in (λ z. omega (arith, z, x), double x)
refusal_by c F false false true k float double e f g i h = absurd h
refusal_by c F false false false true float double e f g i h = absurd h
refusal_by c F false false false false float double e f g i h =
    (λ z. yes_no (eqb c 0) (eq-eqb c 0 z) g, λ k. yes_no (is_known F) (known_yes F k) i)

-- a code that is refused as that of no term
pub refusal_misspelled : (c : ℕ) → IsMisspelling (refusal_of c) → (c ≡ 0 → ⊥) × (IsKnown (format c) → ⊥)
refusal_misspelled c h =
    let none : (n : ℕ) → c ≡ n → IsKnown (format c) → IsKnown (format n) = λ n e k. subst (λ z. IsKnown (format z)) e k in
    refusal_by c (format c) (eqb c 0x72) (eqb c 0x82) (eqb c 0) (is_known (format c)) (none 0x72) (none 0x82) refl refl refl refl h

yes_known : (F : Format) → is_known F ≡ true → IsKnown F
yes_known (fixed w f) h = tt
yes_known (variable w f) h = tt
yes_known (compound k w) h = tt
yes_known unknown h = let x : false ≡ true = h in absurd (cc)

deep_by : (b : Bool) → IsMisspelling (cond b Limit Depth)
deep_by true = tt
deep_by false = tt

-- the error for a value that nests too deep
pub depth_misspelled : (n : ℕ) → IsMisspelling (depth_error n)
depth_misspelled n = deep_by (nat_lt n 128)

-- The errors of terms.
-- deep: the error for values that nest too deep
module _ (deep : Error) (said : IsMisspelling deep) where
  -- it says of bytes that they are no term, and is a limit's only if the error for depth is
  abbrev Says : Error → Type 0
  Says e = IsMisspelling e × (e ≡ Limit → deep ≡ Limit)

  misspelled_by : (c : ℕ) (a b d k : Bool) → eqb c 0 ≡ d → is_known (format c) ≡ k → (c ≡ 0 → ⊥) → (IsKnown (format c) → ⊥)
      → Says (cond a (FloatCode c) (cond b (FloatCode c) (cond d (WrongType c) (cond k (WrongType c) (UnknownCode c)))))
  misspelled_by c true b d k g i some none = (tt, λ l. absurd (cc))
  misspelled_by c false true d k g i some none = (tt, λ l. absurd (cc))
  misspelled_by c false false true k g i some none = absurd (some (eqb-true c 0 g))
  misspelled_by c false false false true g i some none = absurd (none (yes_known (format c) i))
  misspelled_by c false false false false g i some none = (tt, λ l. absurd (cc))

  misspelled_refusal : (c : ℕ) → (c ≡ 0 → ⊥) → (IsKnown (format c) → ⊥) → Says (refusal_of c)
  misspelled_refusal c some none = misspelled_by c (eqb c 0x72) (eqb c 0x82) (eqb c 0) (is_known (format c)) refl refl some none

  abbrev IsOfTerms : Error → Type 0
  IsOfTerms e = (e ≡ Cut) ⊎ Says e

  misspelled_inside : (e : Error) → Says e → Says (inside e)
  misspelled_inside Cut h = (tt, λ l. absurd (cc))
  misspelled_inside e h = h

  of_inside : (e : Error) → IsOfTerms e → Says (inside e)
  of_inside e (inl is) = subst (λ x. Says (inside x)) (sym is) (tt, λ l. absurd (cc))
  of_inside e (inr h) = misspelled_inside e h

  of_value : (o : Option Primitive) (e : Error) → ValueFault o e → Says e
  of_value None e h = subst Says (sym h) (tt, λ l. absurd (cc))
  of_value (Some (char n)) e h = subst Says (sym h.1) (tt, λ l. absurd (cc))
  of_value (Some (string s)) e h = subst Says (sym h.1) (tt, λ l. absurd (cc))
  of_value (Some (symbol s)) e h = subst Says (sym h.1) (tt, λ l. absurd (cc))
  of_value (Some p) e h = absurd h

  of_primitive : (F : Format) (input : List ℕ) (e : Error) → PrimitiveFault F input e → IsOfTerms e
  of_primitive F input e (primitive_wanting p h) = inl refl
  of_primitive F input e (primitive_no_value content after x b h) = inr (of_value (value_of F content) x h)

  of_descriptor : (input : List ℕ) (e : Error) → DescriptorFault input e → IsOfTerms e
  of_descriptor input e (descriptor_missing is) = inl refl
  of_descriptor input e (descriptor_other c after is known other) = inr (tt, λ l. absurd (cc))
  of_descriptor input e (descriptor_unknown c after is some none) = inr (misspelled_refusal c some none)
  of_descriptor input e (descriptor_data c after x is code h) = of_primitive (format c) after x h

  of_constructor : (input : List ℕ) (e : Error) (at : ℕ) → ConstructorFault input e at → IsOfTerms e
  of_constructor input e at (constructor_ends n few b) = inl refl
  of_constructor input e at (constructor_unknown n c after few b some none) = inr (misspelled_refusal c some none)
  of_constructor input e at (constructor_long after b) = inr (tt, λ l. absurd (cc))
  of_constructor input e at (constructor_descriptor n after x few b h) = of_descriptor after x h

  of_content : (kind : Container) (w : ℕ) (input : List ℕ) (e : Error) → ContentFault kind w input e → IsOfTerms e
  of_content kind w input e (content_wanting h) = inl refl
  of_content kind w input e (content_small h) = inr (tt, λ l. absurd (cc))
  of_content kind w input e (content_counted k h) = inr (tt, λ l. absurd (cc))

  mutual
    of_term : (nesting : ℕ) (input : List ℕ) (e : Error) (at : ℕ) → TermFault deep nesting input e at → IsOfTerms e
    of_term nesting input e at (term_constructor k b x l h) = of_constructor b x l h
    of_term nesting input e at (term_nests k b n c after there more) = inr (said, λ l. l)
    of_term nesting input e at (term_data k b x n c inner l after there is h) = of_data 1 c inner after x l h

    of_data : (own code nesting : ℕ) (input : List ℕ) (e : Error) (at : ℕ) → DataFault deep own code nesting input e at → IsOfTerms e
    of_data own code nesting input e at (data_of_primitive o c k b x h) = of_primitive (format c) b x h
    of_data own code nesting input e at (data_of_container o c k b x l kind w is some h) = of_container o kind w k b x l h
    of_data own code nesting input e at (data_of_array o c k b x l w is h) = of_array o w k b x l h

    of_container : (own : ℕ) (kind : Container) (w nesting : ℕ) (input : List ℕ) (e : Error) (at : ℕ)
        → ContainerFault deep own kind w nesting input e at → IsOfTerms e
    of_container own kind w nesting input e at (container_content o k v m b x h) = of_content k v b x h
    of_container own kind w nesting input e at (container_deep o k v m b after there is) = inr (said, λ l. l)
    of_container own kind w nesting input e at (container_unpaired o k v m b n items after there odd) = inr (tt, λ l. absurd (cc))
    of_container own kind w nesting input e at (container_items o k v m b x n inner l items after there is h) =
        inr (of_items inner n items x l h)

    of_items : (nesting n : ℕ) (content : List ℕ) (e : Error) (at : ℕ) → ItemsFault deep nesting n content e at → Says e
    of_items nesting n content e at (items_fault k m b x done l after less there h) = of_inside x (of_term k after x l h)
    of_items nesting n content e at (items_over k m b after there some) = (tt, λ l. absurd (cc))

    of_array : (own w nesting : ℕ) (input : List ℕ) (e : Error) (at : ℕ) → ArrayFault deep own w nesting input e at → IsOfTerms e
    of_array own w nesting input e at (array_content o v m b x h) = of_content array v b x h
    of_array own w nesting input e at (array_elements o v m b x n l items after there h) = inr (of_elements m n items x l h)

    of_elements : (nesting n : ℕ) (content : List ℕ) (e : Error) (at : ℕ) → ElementsFault deep nesting n content e at → Says e
    of_elements nesting n content e at (elements_missing k j b is some) = (tt, λ l. absurd (cc))
    of_elements nesting n content e at (elements_constructor k j b x l some h) = of_inside x (of_constructor b x l h)
    of_elements nesting n content e at (elements_over k j b m c after there is some) = (tt, λ l. absurd (cc))
    of_elements nesting n content e at (elements_empty k j b m c after there some h) = (tt, λ l. absurd (cc))
    of_elements nesting n content e at (elements_deep k j b m c after there some h) = (said, λ l. l)
    of_elements nesting n content e at (elements_data k j b x m c inner l after there some is h) = of_shared c inner j after x l h

    of_shared : (code nesting n : ℕ) (content : List ℕ) (e : Error) (at : ℕ) → SharedFault deep code nesting n content e at → Says e
    of_shared code nesting n content e at (shared_fault c k m b x done l after less there h) = of_inside x (of_data 0 c k after x l h)
    of_shared code nesting n content e at (shared_over c k m b after there some) = (tt, λ l. absurd (cc))

  -- bytes that are no term are refused since they end, or as such
  pub term_error : (nesting : ℕ) (input : List ℕ) (e : Error) → HasFault deep nesting input e
      → (e ≡ Cut) ⊎ (IsMisspelling e × (e ≡ Limit → deep ≡ Limit))
  term_error nesting input e h = of_term nesting input e h.0 h.1
