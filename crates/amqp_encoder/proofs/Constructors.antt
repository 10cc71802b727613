-- A term's constructor in an array, as bytes.
use Rattle.std.proofs.Common.{◌≡◌, ℕ, List, [], ◌∷◌, ◌++◌, drop, refl, sym, ◌∙◌, ap, ap₂, Some, None, option_map}
use Rattle.std.proofs.lemmas.List.{append_cancel_left}
use Rattle.amqp_model.specs.Term.{null, Term, leaf, container, described, kept, barred, Descriptor}
use Rattle.amqp_model.specs.Spelling.{descriptor_value}
use Rattle.amqp_model.specs.Text.{wide, wide_code, shortest, spell, form}
use Rattle.amqp_model.specs.Ranges.{IsInRange}
use Rattle.amqp_model.specs.Refusals.{core, HasForm, Differ}
use Rattle.amqp_model.proofs.Primitives.{IsWritten}
use Rattle.amqp_model.proofs.Forms.{Form, under, names, primitive_form_at, container_form_at}
use Rattle.amqp_model.proofs.Same.{names_same}
use Rattle.amqp_encoder.specs.Measuring.{descriptor_bytes}
use Rattle.amqp_encoder.proofs.Measured.{descs, core_code, Chain, IsOther}

abbrev bytes_of : List Descriptor → List ℕ
bytes_of [] = []
bytes_of (d ∷ ds) = descriptor_bytes d ++ bytes_of ds

abbrev AllNamed : List Descriptor → Type 0
AllNamed [] = Unit {0}
AllNamed (d ∷ ds) = IsInRange (descriptor_value d) × IsWritten (descriptor_value d) × AllNamed ds

-- the form says the bytes
form_bytes : (t : Term) (f : Form) → form t ≡ Some f → (descs t ≡ bytes_of f.0) × (core_code t ≡ f.1)
form_bytes (leaf p) f e = primitive_form_at (λ f. ([] ≡ bytes_of f.0) × ((wide p).0 ≡ f.1)) p f e (refl, refl)
form_bytes (container k ts) f e = container_form_at (λ f. ([] ≡ bytes_of f.0) × (wide_code k ≡ f.1)) k ts f e (refl, refl)
form_bytes (described d t) f e =
    let i = under d (form t) f e in
    let j = form_bytes t i.0 i.1 in
    (ap (λ l. descriptor_bytes d ++ l) j.0 ∙ ap (λ g. bytes_of g.0) i.2, j.1 ∙ ap (λ g. g.1) i.2)
form_bytes (kept b) f e = cc
form_bytes (barred r) f e = cc

form_named : (t : Term) (f : Form) → form t ≡ Some f → Chain t → AllNamed f.0
form_named (leaf p) f e c = primitive_form_at (λ f. AllNamed f.0) p f e tt
form_named (container k ts) f e c = container_form_at (λ f. AllNamed f.0) k ts f e tt
form_named (described d t) f e c =
    let i = under d (form t) f e in
    let j : AllNamed (d ∷ i.0.0) = (c.0, c.1, form_named t i.0 i.1 c.2) in
    rw (ap (λ g. AllNamed g.0) (sym i.2)) j
form_named (kept b) f e c = cc
form_named (barred r) f e c = cc

-- equal bytes are of equal descriptors
lists_alike : (ds es : List Descriptor) → AllNamed ds → AllNamed es → bytes_of ds ≡ bytes_of es → ds ≡ es
lists_alike [] [] a b h = refl
lists_alike [] (e ∷ es) a b h = cc
lists_alike (d ∷ ds) [] a b h = cc
lists_alike (d ∷ ds) (e ∷ es) a b h =
    let x = spell (shortest (descriptor_value d)) in
    let y = spell (shortest (descriptor_value e)) in
    let tail : x ++ bytes_of ds ≡ y ++ bytes_of es = ap (drop 1) h in
    let same = names_same d e x y (bytes_of ds) (bytes_of es) (names d a.0 a.1) (names e b.0 b.1) tail in
    let others : bytes_of ds ≡ bytes_of es =
    append_cancel_left x (bytes_of ds) (bytes_of es) (tail ∙ ap (λ l. l ++ bytes_of es) (sym same.0)) in
    ap₂ (λ d ds. d ∷ ds) same.1 (lists_alike ds es a.2 b.2 others)

pub alike_forms : (t u : Term) → HasForm t → HasForm u → Chain t → Chain u → descs t ≡ descs u → core_code t ≡ core_code u → form t ≡ form u
alike_forms t u (f, e) (g, i) a b h k =
    let x = form_bytes t f e in
    let y = form_bytes u g i in
    let ds : f.0 ≡ g.0 = lists_alike f.0 g.0 (form_named t f e a) (form_named u g i b) (sym x.0 ∙ h ∙ y.0) in
    let c : f.1 ≡ g.1 = sym x.1 ∙ k ∙ y.1 in
    e ∙ ap₂ (λ ds c. Some (ds, c)) ds c ∙ sym i

pub form_alike : (t u : Term) → HasForm t → form t ≡ form u → (descs t ≡ descs u) × (core_code t ≡ core_code u)
form_alike t u (f, e) h =
    let x = form_bytes t f e in
    let y = form_bytes u f (sym h ∙ e) in
    (x.0 ∙ sym y.0, x.1 ∙ sym y.1)

-- a term whose constructor is another one than that of a term differs from it
pub other_differs : (t u : Term) → HasForm t → IsOther (descs t) (core_code t) u → Differ t u
other_differs (described d t) (described e u) (f, i) n =
    let a = under d (form t) f i in
    λ same. other_differs t u (a.0, a.1) (n (descs t) (ap (λ d. descriptor_bytes d ++ descs t) same))
other_differs (described d t) u h n = n.0
other_differs t (described e u) h n = h
other_differs t u h n = (h, n.0, λ e. n.1 (refl, (form_alike t u h e).1))

-- null and kept bytes have no form
pub null_form : (t : Term) → core t ≡ leaf null → form t ≡ None
null_form (leaf p) h = let e : form (leaf p) ≡ form (leaf null) = ap form h in e
null_form (container k ts) h = cc
null_form (described d t) h = ap (option_map (λ f. (d ∷ f.0, f.1))) (null_form t h)
null_form (kept b) h = refl
null_form (barred r) h = refl

pub kept_form : (t : Term) (b : List ℕ) → core t ≡ kept b → form t ≡ None
kept_form (leaf p) b h = cc
kept_form (container k ts) b h = cc
kept_form (described d t) b h = ap (option_map (λ f. (d ∷ f.0, f.1))) (kept_form t b h)
kept_form (kept c) b h = refl
kept_form (barred r) b h = refl

pub formless : (t : Term) → HasForm t → form t ≡ None → ⊥
formless t (f, e) h = cc
