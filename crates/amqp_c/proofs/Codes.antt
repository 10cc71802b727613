-- Descriptors that are ulongs.
use Rattle.std.proofs.Common.{◌≡◌, ℕ, suc, ◌+◌, ◌≤◌, List, [], ◌∷◌, length, take, get_or, Option, Some, None, MatchOption, refl, sym, subst, ◌∙◌, ap, arith}
use Rattle.std.proofs.lemmas.List.{length-take-le}
use Rattle.std.specs.Int.{from_be_bytes, w64}
use Rattle.amqp_model.specs.Term.{ulong, code}
use Rattle.amqp_model.specs.Spelling.{Names}
use Rattle.amqp_lengths.specs.Fronts.{IsFront, NoFront}
use Rattle.amqp_lengths.proofs.Descriptors.{heads}
use Rattle.amqp_c.specs.Paths.{IsMarkOf}

-- the bytes of a ulong
pub no_bytes : (input x : List ℕ) (c : ℕ) → input ≡ c ∷ x → c ≡ 0x44 → IsFront (Names (code 0)) input 1
no_bytes input x c is same =
    subst (λ l. IsFront (Names (code 0)) l 1) (sym (is ∙ ap (λ z. z ∷ x) same))
    (record { within = omega arith; spelled = (0x44, [], refl, (refl, refl, tt)) })

pub one_byte : (input x rest : List ℕ) (c a : ℕ) → input ≡ c ∷ x → c ≡ 0x53 → x ≡ a ∷ rest → IsFront (Names (code a)) input 2
one_byte input x rest c a is same there =
    subst (λ l. IsFront (Names (code a)) l 2) (sym (is ∙ ap (λ z. z ∷ x) same ∙ ap (λ l. 0x53 ∷ l) there))
    (record { within = omega arith; spelled = (0x53, a ∷ [], refl, (refl, refl, tt)) })

abbrev eight_of : List ℕ → List ℕ
eight_of x = get_or x 0 0 ∷ get_or x 1 0 ∷ get_or x 2 0 ∷ get_or x 3 0 ∷ get_or x 4 0 ∷ get_or x 5 0 ∷ get_or x 6 0 ∷ get_or x 7 0 ∷ []

first_eight : (x : List ℕ) → 8 ≤ length x → eight_of x ≡ take 8 x
first_eight [] long = absurd (omega (arith, long))
first_eight (a ∷ []) long = absurd (omega (arith, long))
first_eight (a ∷ (b ∷ [])) long = absurd (omega (arith, long))
first_eight (a ∷ (b ∷ (c ∷ []))) long = absurd (omega (arith, long))
first_eight (a ∷ (b ∷ (c ∷ (d ∷ [])))) long = absurd (omega (arith, long))
first_eight (a ∷ (b ∷ (c ∷ (d ∷ (e ∷ []))))) long = absurd (omega (arith, long))
first_eight (a ∷ (b ∷ (c ∷ (d ∷ (e ∷ (f ∷ [])))))) long = absurd (omega (arith, long))
first_eight (a ∷ (b ∷ (c ∷ (d ∷ (e ∷ (f ∷ (g ∷ []))))))) long = absurd (omega (arith, long))
first_eight (a ∷ (b ∷ (c ∷ (d ∷ (e ∷ (f ∷ (g ∷ (h ∷ rest)))))))) long = refl

pub eight_bytes : (input x : List ℕ) (c r : ℕ) → input ≡ c ∷ x → c ≡ 0x80 → 8 ≤ length x → r ≡ from_be_bytes w64 (eight_of x)
    → IsFront (Names (code r)) input 9
eight_bytes input x c r is same long made =
    let value : Some (ulong (from_be_bytes w64 (take 8 x))) ≡ Some (ulong r) = ap (λ l. Some (ulong (from_be_bytes w64 l))) (sym (first_eight x long))
    ∙ ap (λ n. Some (ulong n)) (sym made) in
    subst (λ l. IsFront (Names (code r)) l 9) (sym (is ∙ ap (λ z. z ∷ x) same))
    (record { within = omega (arith, long); spelled = (0x80, take 8 x, refl, (length-take-le 8 x long, value, tt)) })

-- a descriptor behind a 0
mark_here : (input x : List ℕ) (m c len : ℕ) → input ≡ m ∷ x → m ≡ 0 → IsFront (Names (code c)) x len → IsFront (IsMarkOf c) input (1 + len)
mark_here input x m c len is nought f =
    let one : suc len ≡ 1 + len = omega arith in
    let long : 1 + len ≤ suc (length x) = omega (arith, f.within) in
    subst (λ l. IsFront (IsMarkOf c) l (1 + len)) (sym (is ∙ ap (λ z. z ∷ x) nought))
    (record { within = long; spelled = (take len x, ap (λ k. take k (0 ∷ x)) (sym one), f.spelled) })

no_mark : (input x : List ℕ) (m c : ℕ) → input ≡ m ∷ x → NoFront (Names (code c)) x → NoFront (IsMarkOf c) input
no_mark input x m c is none = λ front after s (name, e, names). none name after (heads m 0 name x front after e (sym is ∙ s)).1 names

pub mark_answered : (input x : List ℕ) (m : ℕ) (o : Option ℕ) → input ≡ m ∷ x → m ≡ 0
    → MatchOption o ((c : ℕ) → NoFront (Names (code c)) x) (λ c. (len : ℕ) × IsFront (Names (code c)) x len)
    → MatchOption o ((c : ℕ) → NoFront (IsMarkOf c) input) (λ c. (len : ℕ) × IsFront (IsMarkOf c) input len)
mark_answered input x m None is nought none = λ c. no_mark input x m c is (none c)
mark_answered input x m (Some c) is nought (len, f) = (1 + len, mark_here input x m c len is nought f)
