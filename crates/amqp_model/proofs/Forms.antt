-- The forms of an array's items, and what writing asks of a term.
use Rattle.std.proofs.Common.{◌≡◌, ℕ, ◌+◌, ◌%◌, ◌^◌, ◌<◌, ◌≤◌, List, [], ◌∷◌, ◌++◌, length, refl, sym, ap, ◌∙◌, subst, arith, Option, Some}
use Rattle.std.proofs.Common.{None, option_map, unwrap_or, append_assoc, true, false}
use Rattle.amqp_model.specs.Term.{Primitive, null, boolean, Container, list, map, array, Term, Terms, leaf, container, described, kept}
use Rattle.amqp_model.specs.Term.{barred, none, more, Descriptor, count}
use Rattle.amqp_model.specs.Constructors.{Format, fixed, variable, compound, unknown, format}
use Rattle.amqp_model.specs.Spelling.{PrimitiveData, IsKnown, HasWidthZero, descriptor_value, Names, Constructor}
use Rattle.amqp_model.specs.Text.{First, Later, wide, shortest, spell, wide_code, primitive_form, form, text, texts, content_of}
use Rattle.amqp_model.specs.Text.{first_place}
use Rattle.amqp_model.specs.Ranges.{IsInRange, Everywhere}
use Rattle.amqp_model.proofs.Primitives.{IsWritten, wide_spelling, shortest_spelling}

abbrev pub Form : Type 0
Form = List Descriptor × ℕ

-- each item has the form f
abbrev pub HaveForm : Form → Terms → Type 0
HaveForm f none = Unit {0}
HaveForm f (more t ts) = (form t ≡ Some f) × HaveForm f ts

abbrev pub IsFormed : Term → Type 0
IsFormed (leaf p) = IsInRange p × IsWritten p
IsFormed (container list ts) = Unit {0}
IsFormed (container map ts) = count ts % 2 ≡ 0
IsFormed (container array ts) = (f : Form) × HaveForm f ts
IsFormed (described d t) = IsInRange (descriptor_value d) × IsWritten (descriptor_value d)
IsFormed (kept b) = Unit {0}
IsFormed (barred r) = ⊥

abbrev pub IsSized : Term → Type 0
IsSized (container k ts) = 4 + length (content_of k (count ts) (texts ts (first_place k))) < 2 ^ 32
IsSized _ = Unit {0}

-- what writing asks of a term itself, its parts aside
abbrev pub Good : Term → Type 0
Good u = IsFormed u × IsSized u

pub names : (d : Descriptor) → IsInRange (descriptor_value d) → IsWritten (descriptor_value d)
    → Names d (spell (shortest (descriptor_value d)))
names d r w = ((shortest (descriptor_value d)).0, (shortest (descriptor_value d)).1, refl, shortest_spelling (descriptor_value d) r w)

pub primitive_known : (F : Format) (p : Primitive) (b : List ℕ) → PrimitiveData F p b → IsKnown F
primitive_known (fixed w v) p b h = tt
primitive_known (variable w v) p b h = tt
primitive_known (compound k w) p b h = tt
primitive_known unknown p b h = absurd h

-- the form of what is described
pub under : (d : Descriptor) (o : Option Form) (f : Form) → option_map (λ g. (d ∷ g.0, g.1)) o ≡ Some f
    → (g : Form) × (o ≡ Some g) × ((d ∷ g.0, g.1) ≡ f)
under d None f e = cc
under d (Some g) f e = (g, refl, ap (λ o. unwrap_or o f) e)

primitive_cases : (P : Primitive → Form → Type 0) → ((p : Primitive) → (p ≡ null → ⊥) → P p ([], (wide p).0)) → (p : Primitive) (f : Form)
    → primitive_form p ≡ Some f → P p f
primitive_cases P of_leaf null f e = cc
primitive_cases P of_leaf p f e = subst (P p) (ap (λ o. unwrap_or o f) e) (of_leaf p (λ n. cc))

-- what holds of each form that a term can have
form_cases : (P : Term → Form → Type 0)
    → ((p : Primitive) → (p ≡ null → ⊥) → P (leaf p) ([], (wide p).0))
    → ((k : Container) (ts : Terms) → P (container k ts) ([], wide_code k))
    → ((d : Descriptor) (t : Term) (g : Form) → P t g → P (described d t) (d ∷ g.0, g.1))
    → (t : Term) (f : Form) → form t ≡ Some f → P t f
form_cases P of_leaf of_container of_described (leaf p) f e = primitive_cases (λ p. P (leaf p)) of_leaf p f e
form_cases P of_leaf of_container of_described (container k ts) f e =
    subst (P (container k ts)) (ap (λ o. unwrap_or o f) e) (of_container k ts)
form_cases P of_leaf of_container of_described (described d t) f e =
    let i = under d (form t) f e in
    subst (P (described d t)) i.2 (of_described d t i.0 (form_cases P of_leaf of_container of_described t i.0 i.1))
form_cases P of_leaf of_container of_described (kept b) f e = cc
form_cases P of_leaf of_container of_described (barred r) f e = cc

wide_width : (p : Primitive) → (p ≡ null → ⊥) → HasWidthZero (format (wide p).0) → ⊥
wide_width null some h = some refl
wide_width (boolean true) some h = h
wide_width (boolean false) some h = h
wide_width p some h = h

container_width : (k : Container) → HasWidthZero (format (wide_code k)) → ⊥
container_width list h = h
container_width map h = h
container_width array h = h

-- an array's items aren't of width zero
pub form_width : (t : Term) (f : Form) → form t ≡ Some f → HasWidthZero (format f.1) → ⊥
form_width = form_cases (λ t f. HasWidthZero (format f.1) → ⊥) wide_width (λ k ts. container_width k) (λ d t g h. h)

-- a constructor in canonical form
abbrev pub opening : List Descriptor → ℕ → List ℕ
opening [] c = c ∷ []
opening (d ∷ ds) c = 0 ∷ (spell (shortest (descriptor_value d)) ++ opening ds c)

pub container_known : (k : Container) → IsKnown (format (wide_code k))
container_known list = tt
container_known map = tt
container_known array = tt

pub opening_spelled : (t : Term) (f : Form) → form t ≡ Some f → Everywhere Good t → Constructor f.0 f.1 (opening f.0 f.1)
opening_spelled = form_cases (λ t f. Everywhere Good t → Constructor f.0 f.1 (opening f.0 f.1))
    (λ p some g. (refl, primitive_known (format (wide p).0) p (wide p).1 (wide_spelling p g.0.0 g.0.1)))
    (λ k ts g. (refl, container_known k))
    (λ d t f h g. (spell (shortest (descriptor_value d)), opening f.0 f.1, refl, names d g.0.0.0 g.0.0.1, h g.1))

-- the first item of an array is the constructor of all, and its data
pub first_text : (t : Term) (f : Form) → form t ≡ Some f → text t First ≡ opening f.0 f.1 ++ text t Later
unfolding text
first_text = form_cases (λ t f. text t First ≡ opening f.0 f.1 ++ text t Later) (λ p some. refl) (λ k ts. refl)
    (λ d t f h. ap (λ l. 0 ∷ (spell (shortest (descriptor_value d)) ++ l)) h
    ∙ ap (λ l. 0 ∷ l) (sym (append_assoc (spell (shortest (descriptor_value d))) (opening f.0 f.1) (text t Later))))

wide_length : (p : Primitive) → (p ≡ null → ⊥) → IsInRange p → 1 ≤ length (wide p).1
wide_length null some g = absurd (some refl)
wide_length (boolean true) some g = omega arith
wide_length (boolean false) some g = omega arith
wide_length p some g = omega arith

-- no item of an array is without data
pub data_length : (t : Term) (f : Form) → form t ≡ Some f → Everywhere Good t → 1 ≤ length (text t Later)
unfolding text
data_length =
    form_cases (λ t f. Everywhere Good t → 1 ≤ length (text t Later)) (λ p some g. wide_length p some g.0.0)
    (λ k ts g. omega arith) (λ d t f h g. h g.1)

-- a fact of the form of a primitive or a container is one of the code that it has in an array
pub primitive_form_at : (P : Form → Type 0) (p : Primitive) (f : Form) → primitive_form p ≡ Some f → P ([], (wide p).0) → P f
primitive_form_at P p f e = primitive_cases (λ p f. P ([], (wide p).0) → P f) (λ p some h. h) p f e

pub container_form_at : (P : Form → Type 0) (k : Container) (ts : Terms) (f : Form) → form (container k ts) ≡ Some f
    → P ([], wide_code k) → P f
container_form_at P k ts f e h = subst P (ap (λ o. unwrap_or o f) e) h
