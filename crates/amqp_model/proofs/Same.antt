-- Two fronts of one list, by the parts of a spelling.
use Rattle.std.proofs.Common.{◌≡◌, ℕ, inl, inr, List, [], ◌∷◌, ◌++◌, length, get_or, drop, refl, sym, ap, ap₂, ◌∙◌, ◌-◌, subst, subst₂}
use Rattle.std.proofs.Common.{arith, unwrap_or, append_assoc}
use Rattle.std.specs.Int.{bytes_high_first}
use Rattle.amqp_model.specs.Term.{Primitive, Container, Descriptor, name, code}
use Rattle.amqp_model.specs.Constructors.{Format, fixed, variable, compound, unknown, format}
use Rattle.amqp_model.specs.Spelling.{Joined, PrimitiveData, IsSize, ContainerData, IsKnown, descriptor_value, Names, Constructor, Spelled}
use Rattle.amqp_model.proofs.Bytes.{front, rest, field}

-- where a P and a Q begin one list they are one front, and E holds
abbrev pub Same : (List ℕ → Type 0) → (List ℕ → Type 0) → Type 0 → Type 0
Same P Q E = (b b' x y : List ℕ) → P b → Q b' → b ++ x ≡ b' ++ y → (b ≡ b') × E

-- one list that is a P and a Q has E
abbrev pub One : (List ℕ → Type 0) → (List ℕ → Type 0) → Type 0 → Type 0
One P Q E = (b : List ℕ) → P b → Q b → E

pub one : (P Q : List ℕ → Type 0) (E : Type 0) → Same P Q E → One P Q E
one P Q E same b h h' = (same b b [] [] h h' refl).1

pub joined_same : (A A' B B' : List ℕ → Type 0) (E F : Type 0) → Same A A' E → (E → Same B B' F) → Same (Joined A B) (Joined A' B') (E × F)
joined_same A A' B B' E F first_same second_same b b' x y (f, s, e, h, k) (f', s', e', h', k') same =
    let whole : f ++ (s ++ x) ≡ f' ++ (s' ++ y) =
    sym (append_assoc f s x) ∙ ap (λ l. l ++ x) (sym e) ∙ same ∙ ap (λ l. l ++ y) e' ∙ append_assoc f' s' y in
    let one_ = first_same f f' (s ++ x) (s' ++ y) h h' whole in
    let two = second_same one_.1 s s' x y k k' (rest f f' (s ++ x) (s' ++ y) (ap length one_.0) whole) in
    (e ∙ ap₂ (λ l m. l ++ m) one_.0 two.0 ∙ sym e', (one_.1, two.1))

-- a list of two or three parts, with what follows
regroup : (a m x b : List ℕ) → b ≡ a ++ m → b ++ x ≡ a ++ (m ++ x)
regroup a m x b s = ap (λ l. l ++ x) s ∙ append_assoc a m x

regroup_three : (a n m x b : List ℕ) → b ≡ a ++ (n ++ m) → b ++ x ≡ a ++ (n ++ (m ++ x))
regroup_three a n m x b s = regroup a (n ++ m) x b s ∙ ap (λ l. a ++ l) (append_assoc n m x)

pub primitive_same : (F : Format) (p p' : Primitive) → Same (PrimitiveData F p) (PrimitiveData F p') (p ≡ p')
primitive_same (fixed w value) p p' b b' x y h h' e =
    let same : b ≡ b' = front b b' x y (h.0 ∙ sym h'.0) e in
    (same, ap (λ o. unwrap_or o p) (sym h.1 ∙ ap value same ∙ h'.1))
primitive_same (variable w value) p p' b b' x y (s, fits, h, v, _) (s', fits', h', v', _) e =
    let whole : bytes_high_first w (length s) ++ (s ++ x) ≡ bytes_high_first w (length s') ++ (s' ++ y) =
    sym (regroup (bytes_high_first w (length s)) s x b h) ∙ e ∙ regroup (bytes_high_first w (length s')) s' y b' h' in
    let sizes = field w (length s) (length s') (s ++ x) (s' ++ y) fits fits' whole in
    let same : s ≡ s' = front s s' x y sizes.0 sizes.1 in
    (h ∙ ap (λ l. bytes_high_first w (length l) ++ l) same ∙ sym h', ap (λ o. unwrap_or o p) (sym v ∙ ap value same ∙ v'))
primitive_same (compound k w) p p' b b' x y h h' e = absurd h
primitive_same unknown p p' b b' x y h h' e = absurd h

content_length : (k : Container) (w n size : ℕ) (content : List ℕ) → IsSize k w n content size → length content ≡ size - w
content_length k w n size content (inl e) = omega arith
content_length k w n size content (inr (_, _, empty, nothing)) = ap length empty ∙ (omega arith)

pub container_same : (F : Format) (k : Container) (n n' : ℕ) (C C' : List ℕ → Type 0) (E : Type 0) → (n ≡ n' → One C C' E)
    → Same (ContainerData F k n C) (ContainerData F k n' C') E
container_same (compound k' w) k n n' C C' E inner b b' x y (_, size, content, h, c, fits, room, s)
    (_, size', content', h', c', fits', room', s') e =
    let whole : bytes_high_first w size ++ (bytes_high_first w n ++ (content ++ x))
    ≡ bytes_high_first w size' ++ (bytes_high_first w n' ++ (content' ++ y)) =
    sym (regroup_three (bytes_high_first w size) (bytes_high_first w n) content x b s) ∙ e
    ∙ regroup_three (bytes_high_first w size') (bytes_high_first w n') content' y b' s' in
    let sizes = field w size size' (bytes_high_first w n ++ (content ++ x)) (bytes_high_first w n' ++ (content' ++ y)) fits fits' whole in
    let counts = field w n n' (content ++ x) (content' ++ y) room room' sizes.1 in
    let same : content ≡ content' =
    front content content' x y (content_length k w n size content h ∙ ap (λ z. z - w) sizes.0
    ∙ sym (content_length k w n' size' content' h')) counts.1 in (
      s ∙ ap₂ (λ z m. bytes_high_first w z ++ m) sizes.0 (ap₂ (λ z m. bytes_high_first w z ++ m) counts.0 same) ∙ sym s',
      inner counts.0 content c (subst C' (sym same) c'),
    )
container_same (fixed w value) k n n' C C' E inner b b' x y h h' e = absurd h
container_same (variable w value) k n n' C C' E inner b b' x y h h' e = absurd h
container_same unknown k n n' C C' E inner b b' x y h h' e = absurd h

descriptor_same : (d d' : Descriptor) → descriptor_value d ≡ descriptor_value d' → d ≡ d'
descriptor_same (name s) (name s') e = cc
descriptor_same (code n) (code n') e = cc
descriptor_same (name s) (code n) e = cc
descriptor_same (code n) (name s) e = cc

first_same : (a a' : ℕ) (x y : List ℕ) → a ∷ x ≡ a' ∷ y → (a ≡ a') × (x ≡ y)
first_same a a' x y e = (ap (λ l. get_or l 0 0) e, ap (drop 1) e)

-- the same of lists that begin with one number each
heads : (a a' : ℕ) (m m' b b' x y : List ℕ) → b ≡ a ∷ m → b' ≡ a' ∷ m' → b ++ x ≡ b' ++ y → (a ≡ a') × (m ++ x ≡ m' ++ y)
heads a a' m m' b b' x y s s' e = first_same a a' (m ++ x) (m' ++ y) (ap (λ l. l ++ x) (sym s) ∙ e ∙ ap (λ l. l ++ y) s')

pub names_same : (d d' : Descriptor) → Same (Names d) (Names d') (d ≡ d')
names_same d d' b b' x y (c, data_, s, h) (c', data', s', h') e =
    let r = heads c c' data_ data' b b' x y s s' e in
    let p = primitive_same (format c) (descriptor_value d) (descriptor_value d') data_ data' x y h
    (subst (λ z. PrimitiveData (format z) (descriptor_value d') data') (sym r.0) h') r.1 in
    (s ∙ ap₂ (λ z l. z ∷ l) r.0 p.0 ∙ sym s', descriptor_same d d' p.1)

pub constructor_same : (ds ds' : List Descriptor) (c c' : ℕ) → Same (Constructor ds c) (Constructor ds' c') ((ds ≡ ds') × (c ≡ c'))
constructor_same [] [] c c' b b' x y (s, h) (s', h') e =
    let r = heads c c' [] [] b b' x y s s' e in
    (s ∙ ap (λ z. z ∷ []) r.0 ∙ sym s', (refl, r.0))
constructor_same [] (d ∷ ds') c c' b b' x y (s, h) (first, second, s', h', k') e =
    absurd (subst (λ z. IsKnown (format z)) (heads c 0 [] (first ++ second) b b' x y s s' e).0 h)
constructor_same (d ∷ ds) [] c c' b b' x y (first, second, s, h, k) (s', h') e =
    absurd (subst (λ z. IsKnown (format z)) (sym (heads 0 c' (first ++ second) [] b b' x y s s' e).0) h')
constructor_same (d ∷ ds) (d' ∷ ds') c c' b b' x y (first, second, s, h, k) (first', second', s', h', k') e =
    let r = heads 0 0 (first ++ second) (first' ++ second') b b' x y s s' e in
    let j = joined_same (Names d) (Names d') (Constructor ds c) (Constructor ds' c') (d ≡ d') ((ds ≡ ds') × (c ≡ c')) (names_same d d')
    (λ _. constructor_same ds ds' c c')
    (first ++ second) (first' ++ second') x y (first, second, refl, h, k) (first', second', refl, h', k') r.1 in
    (s ∙ ap (λ l. 0 ∷ l) j.0 ∙ sym s', (ap₂ (λ z l. z ∷ l) j.1.0 j.1.1.0, j.1.1.1))

pub spelled_same : (D D' : List Descriptor → ℕ → List ℕ → Type 0) (E : Type 0)
    → ((ds : List Descriptor) (c : ℕ) → Same (D ds c) (D' ds c) E) → Same (Spelled D) (Spelled D') E
spelled_same D D' E inner b b' x y (ds, c, few, h) (ds', c', few', h') e =
    let j = joined_same (Constructor ds c) (Constructor ds' c') (D ds c) (D' ds' c') ((ds ≡ ds') × (c ≡ c')) E
    (constructor_same ds ds' c c')
    (λ r. subst₂ (λ zs z. Same (D ds c) (D' zs z) E) r.0 r.1 (inner ds c)) b b' x y h h' e in
    (j.0, j.1.1)
