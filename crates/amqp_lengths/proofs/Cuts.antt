-- Where the fault is Cut, bytes are missing.
use Rattle.std.proofs.Common.{◌≡◌, ℕ, ◌<◌, Bool, true, false, cond, eqb, Result, Ok, Err, IfErr, List, [], ◌∷◌, ◌++◌, length, Option, Some}
use Rattle.std.proofs.Common.{None, sym, ap, subst, arith}
use Rattle.std.proofs.lemmas.List.{length-append}
use Rattle.amqp_wire.specs.declared.error.Error.{Error}
use Rattle.amqp_wire.specs.declared.error.Error.TheVariants.{Cut, UnknownCode, FloatCode, WrongType, Depth}
use Rattle.amqp_wire.specs.Codes.{is_known, refusal_of}
use Rattle.amqp_model.specs.Term.{Primitive, char, string, symbol, Container, array, Descriptor}
use Rattle.amqp_model.specs.Constructors.{Format, compound, format}
use Rattle.amqp_model.specs.Spelling.{Constructor}
use Rattle.amqp_lengths.specs.Fronts.{Behind}
use Rattle.amqp_lengths.specs.Pieces.{value_of}
use Rattle.amqp_lengths.specs.Announced.{Wants}
use Rattle.amqp_lengths.specs.Lengths.{HasMarks}
use Rattle.amqp_lengths.specs.Faults.{ValueFault, PrimitiveFault, primitive_wanting, primitive_no_value, DescriptorFault}
use Rattle.amqp_lengths.specs.Faults.{descriptor_missing, descriptor_other, descriptor_unknown, descriptor_data, ConstructorFault}
use Rattle.amqp_lengths.specs.Faults.{constructor_ends, constructor_unknown, constructor_long, constructor_descriptor, ContentFault}
use Rattle.amqp_lengths.specs.Faults.{content_wanting, content_small, content_counted, inside, HasFault, TermFault, term_constructor, term_nests}
use Rattle.amqp_lengths.specs.Faults.{term_data, DataFault, data_of_primitive, data_of_container, data_of_array, ContainerFault}
use Rattle.amqp_lengths.specs.Faults.{container_content, container_deep, container_unpaired, container_items, ItemsFault, items_fault}
use Rattle.amqp_lengths.specs.Faults.{items_over, ArrayFault, array_content, array_elements, ElementsFault, elements_missing}
use Rattle.amqp_lengths.specs.Faults.{elements_constructor, elements_over, elements_empty, elements_deep, elements_data, SharedFault}
use Rattle.amqp_lengths.specs.Faults.{shared_fault, shared_over, AsksMore, for_code, for_descriptor, for_descriptor_data, for_data}

-- errors that aren't Cut
either : (t : Bool) (x y : Error) → (x ≡ Cut → ⊥) → (y ≡ Cut → ⊥) → cond t x y ≡ Cut → ⊥
either true x y h k e = h e
either false x y h k e = k e

refusal_not : (c : ℕ) → refusal_of c ≡ Cut → ⊥
refusal_not c =
    either (eqb c 0x72) (FloatCode c)
    (cond (eqb c 0x82) (FloatCode c) (cond (eqb c 0) (WrongType c) (cond (is_known (format c)) (WrongType c) (UnknownCode c))))
    (λ e. cc)
    (either (eqb c 0x82) (FloatCode c) (cond (eqb c 0) (WrongType c) (cond (is_known (format c)) (WrongType c) (UnknownCode c))) (λ e. cc)
    (either (eqb c 0) (WrongType c) (cond (is_known (format c)) (WrongType c) (UnknownCode c)) (λ e. cc)
    (either (is_known (format c)) (WrongType c) (UnknownCode c) (λ e. cc) (λ e. cc))))

inside_not : (e : Error) → inside e ≡ Cut → ⊥
inside_not Cut h = cc
inside_not e h = cc

value_not : (o : Option Primitive) (e : Error) → ValueFault o e → e ≡ Cut → ⊥
value_not None e h c = cc
value_not (Some (char n)) e (h, is) c = cc
value_not (Some (string s)) e (h, is) c = cc
value_not (Some (symbol s)) e (h, is) c = cc
value_not (Some p) e h c = absurd h

-- what each fault asks for
primitive_asks : (F : Format) (input : List ℕ) (e : Error) → PrimitiveFault F input e → e ≡ Cut → Wants F input
primitive_asks F input e (primitive_wanting p h) c = h
primitive_asks F input e (primitive_no_value content after x b h) c = absurd (value_not (value_of F content) x h c)

content_asks : (kind : Container) (w : ℕ) (input : List ℕ) (e : Error) → ContentFault kind w input e → e ≡ Cut
    → Wants (compound kind w) input
content_asks kind w input e (content_wanting h) c = h
content_asks kind w input e (content_small h) c = absurd (cc)
content_asks kind w input e (content_counted k h) c = absurd (cc)

descriptor_asks : (n : ℕ) (input after : List ℕ) (e : Error) → n < 128 → Behind (HasMarks n) input (0 ∷ after) → DescriptorFault after e
    → e ≡ Cut → AsksMore input
descriptor_asks n input after e few b (descriptor_missing is) c = for_descriptor n few (subst (λ l. Behind (HasMarks n) input (0 ∷ l)) is b)
descriptor_asks n input after e few b (descriptor_other k more is known other) c = absurd (cc)
descriptor_asks n input after e few b (descriptor_unknown k more is some none) c = absurd (refusal_not k c)
descriptor_asks n input after e few b (descriptor_data k more x is code h) c =
    for_descriptor_data n k more few (subst (λ l. Behind (HasMarks n) input (0 ∷ l)) is b) code (primitive_asks (format k) more x h c)

constructor_asks : (input : List ℕ) (e : Error) (at : ℕ) → ConstructorFault input e at → e ≡ Cut → AsksMore input
constructor_asks input e at (constructor_ends n few b) c = for_code n few b
constructor_asks input e at (constructor_unknown n k after few b some none) c = absurd (refusal_not k c)
constructor_asks input e at (constructor_long after b) c = absurd (cc)
constructor_asks input e at (constructor_descriptor n after x few b h) c = descriptor_asks n input after x few b h c

items_not : (nesting n : ℕ) (content : List ℕ) (e : Error) (at : ℕ) → ItemsFault Depth nesting n content e at → e ≡ Cut → ⊥
items_not nesting n content e at (items_fault k m b x done l after less there h) c = inside_not x c
items_not nesting n content e at (items_over k m b after there some) c = cc

shared_not : (code nesting n : ℕ) (content : List ℕ) (e : Error) (at : ℕ) → SharedFault Depth code nesting n content e at → e ≡ Cut → ⊥
shared_not code nesting n content e at (shared_fault z k m b x done l after less there h) c = inside_not x c
shared_not code nesting n content e at (shared_over z k m b after there some) c = cc

elements_not : (nesting n : ℕ) (content : List ℕ) (e : Error) (at : ℕ) → ElementsFault Depth nesting n content e at → e ≡ Cut → ⊥
elements_not nesting n content e at (elements_missing k j b is some) c = cc
elements_not nesting n content e at (elements_constructor k j b x l some h) c = inside_not x c
elements_not nesting n content e at (elements_over k j b m z after there is some) c = cc
elements_not nesting n content e at (elements_empty k j b m z after there some h) c = cc
elements_not nesting n content e at (elements_deep k j b m z after there some h) c = cc
elements_not nesting n content e at (elements_data k j b x m z inner l after there some is h) c = shared_not z inner j after x l h c

container_asks : (own : ℕ) (kind : Container) (w nesting : ℕ) (input : List ℕ) (e : Error) (at : ℕ)
    → ContainerFault Depth own kind w nesting input e at → e ≡ Cut → Wants (compound kind w) input
container_asks own kind w nesting input e at (container_content o k v m b x h) c = content_asks k v b x h c
container_asks own kind w nesting input e at (container_deep o k v m b after there is) c = absurd (cc)
container_asks own kind w nesting input e at (container_unpaired o k v m b n items after there odd) c = absurd (cc)
container_asks own kind w nesting input e at (container_items o k v m b x n inner l items after there is h) c =
    absurd (items_not inner n items x l h c)

array_asks : (own w nesting : ℕ) (input : List ℕ) (e : Error) (at : ℕ) → ArrayFault Depth own w nesting input e at → e ≡ Cut
    → Wants (compound array w) input
array_asks own w nesting input e at (array_content o v m b x h) c = content_asks array v b x h c
array_asks own w nesting input e at (array_elements o v m b x n l items after there h) c = absurd (elements_not m n items x l h c)

data_asks : (own code nesting : ℕ) (input : List ℕ) (e : Error) (at : ℕ) → DataFault Depth own code nesting input e at → e ≡ Cut
    → Wants (format code) input
data_asks own code nesting input e at (data_of_primitive o z k b x h) c = primitive_asks (format z) b x h c
data_asks own code nesting input e at (data_of_container o z k b x l kind w is some h) c =
    subst (λ F. Wants F b) (sym is) (container_asks o kind w k b x l h c)
data_asks own code nesting input e at (data_of_array o z k b x l w is h) c = subst (λ F. Wants F b) (sym is) (array_asks o w k b x l h c)

term_asks : (nesting : ℕ) (input : List ℕ) (e : Error) (at : ℕ) → TermFault Depth nesting input e at → e ≡ Cut → AsksMore input
term_asks nesting input e at (term_constructor k b x l h) c = constructor_asks b x l h c
term_asks nesting input e at (term_nests k b n z after there deep) c = absurd (cc)
term_asks nesting input e at (term_data k b x n z inner l after there is h) c = for_data n z after there (data_asks 1 z inner after x l h c)

pub error_asks : (nesting : ℕ) (input : List ℕ) (r : Result ℕ Error) → IfErr r (λ e. HasFault Depth nesting input e)
    → IfErr r (λ e. e ≡ Cut → AsksMore input)
error_asks nesting input (Ok n) h = tt
error_asks nesting input (Err e) h = term_asks nesting input e h.0 h.1

-- a constructor has a code, and a descriptor where it begins with a 0
constructor_some : (ds : List Descriptor) (c : ℕ) (b y : List ℕ) → Constructor ds c b → [] ≡ b ++ y → ⊥
constructor_some [] c b y (s, k) e = omega (arith, ap length e, ap length s, length-append b y)
constructor_some (d ∷ ds) c b y (first, second, s, m, k) e = omega (arith, ap length e, ap length s, length-append b y)
