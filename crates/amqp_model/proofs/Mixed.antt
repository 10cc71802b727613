-- Items of an array that can share a constructor have one form, and those of one form can.
use Rattle.std.proofs.Common.{◌≡◌, ℕ, List, [], ◌∷◌, refl, sym, ap, ap₂, ◌∙◌, arith, Option, Some, None, option_map, unwrap_or}
use Rattle.std.proofs.Common.{lt_of_not-le, le_antisymm, le_of_suc-le-suc, drop, get_or}
use Rattle.amqp_model.specs.Term.{Term, leaf, container, described, kept, barred, Descriptor, name, code}
use Rattle.amqp_model.specs.Text.{form}
use Rattle.amqp_model.specs.Refusals.{HasForm, Differ}
use Rattle.amqp_model.proofs.Forms.{Form, under, primitive_form_at, container_form_at}

-- forms that can't differ are equal
abbrev Stable : {A : Type 0} → A → A → Type 0
Stable x y = ((x ≡ y → ⊥) → ⊥) → x ≡ y

number_stable : (m n : ℕ) → Stable m n
number_stable m n h =
    le_antisymm (le_of_suc-le-suc (lt_of_not-le (λ l. h (λ e. omega arith)))) (le_of_suc-le-suc (lt_of_not-le (λ l. h (λ e. omega arith))))

list_stable : {A : Type 0} → ((x y : A) → Stable x y) → (xs ys : List A) → Stable xs ys
list_stable each [] [] h = refl
list_stable each [] (y ∷ ys) h = absurd (h (λ e. cc))
list_stable each (x ∷ xs) [] h = absurd (h (λ e. cc))
list_stable each (x ∷ xs) (y ∷ ys) h =
    ap₂ (λ z l. z ∷ l) (each x y (λ n. h (λ e. n (ap (λ l. get_or l 0 x) e)))) (list_stable each xs ys (λ n. h (λ e. n (ap (drop 1) e))))

descriptor_stable : (d e : Descriptor) → Stable d e
descriptor_stable (name s) (name s') h = ap name (list_stable number_stable s s' (λ n. h (λ e. n (cc))))
descriptor_stable (code c) (code c') h = ap code (number_stable c c' (λ n. h (λ e. n (cc))))
descriptor_stable (name s) (code c) h = absurd (h (λ e. cc))
descriptor_stable (code c) (name s) h = absurd (h (λ e. cc))

form_stable : (f g : Option Form) → Stable f g
form_stable None None h = refl
form_stable None (Some g) h = absurd (h (λ e. cc))
form_stable (Some f) None h = absurd (h (λ e. cc))
form_stable (Some f) (Some g) h =
    let one : f.0 ≡ g.0 = list_stable descriptor_stable f.0 g.0 (λ n. h (λ e. n (ap (λ o. (unwrap_or o f).0) e))) in
    let two : f.1 ≡ g.1 = number_stable f.1 g.1 (λ n. h (λ e. n (ap (λ o. (unwrap_or o f).1) e))) in
    ap₂ (λ ds c. Some (ds, c)) one two

pub one_form_of : (t u : Term) → HasForm t → HasForm u → (Differ t u → ⊥) → form t ≡ form u
one_form_of (described d t) (described e u) (f, i) (g, j) n =
    let a = under d (form t) f i in
    let b = under e (form u) g j in
    let one : d ≡ e = descriptor_stable d e (λ m. n (λ k. absurd (m k))) in
    ap₂ (λ d o. option_map (λ f. (d ∷ f.0, f.1)) o) one (one_form_of t u (a.0, a.1) (b.0, b.1) (λ m. n (λ k. m)))
one_form_of (described d t) u h k n = absurd (n k)
one_form_of t (described e u) h k n = absurd (n h)
one_form_of t u h k n = form_stable (form t) (form u) (λ m. n (h, k, m))

abbrev IsBare : Term → Type 0
IsBare (described d t) = ⊥
IsBare t = Unit {0}

bare_form : (t : Term) (f : Form) → IsBare t → form t ≡ Some f → f.0 ≡ []
bare_form (leaf p) f b e = primitive_form_at (λ f. f.0 ≡ []) p f e refl
bare_form (container k ts) f b e = container_form_at (λ f. f.0 ≡ []) k ts f e refl
bare_form (described d t) f b e = absurd b
bare_form (kept b) f c e = cc
bare_form (barred r) f b e = cc

-- only one of them is described
not_one : (d : Descriptor) (t u : Term) → IsBare u → HasForm u → form (described d t) ≡ form u → ⊥
not_one d t u b (f, i) k =
    let a = under d (form t) f (k ∙ i) in
    let none : d ∷ a.0.0 ≡ [] = ap (λ f. f.0) a.2 ∙ bare_form u f b i in cc

pub one_form_shared : (t u : Term) → HasForm t → form t ≡ form u → Differ t u → ⊥
one_form_shared (described d t) (described e u) (f, i) k n =
    let a = under d (form t) f i in
    let b = under e (form u) f (sym k ∙ i) in
    let both : (d ∷ a.0.0, a.0.1) ≡ (e ∷ b.0.0, b.0.1) = a.2 ∙ sym b.2 in
    one_form_shared t u (a.0, a.1) (a.1 ∙ ap (λ f. Some (drop 1 f.0, f.1)) both ∙ sym b.1) (n (ap (λ f. get_or f.0 0 d) both))
one_form_shared (described d t) u h k n = not_one d t u tt n k
one_form_shared t (described e u) h k n = not_one e u t tt h (sym k)
one_form_shared t u h k n = n.2 k
