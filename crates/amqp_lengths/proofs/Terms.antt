-- Terms behind their constructors.
use Rattle.std.proofs.Common.{◌≡◌, ℕ, ◌+◌, ◌<◌, ◌≤◌, List, [], ◌∷◌, ◌++◌, length, take, drop, refl, sym, ap, ◌∙◌, subst, arith}
use Rattle.std.proofs.Common.{append_assoc}
use Rattle.std.proofs.Math.Seq.{take-add}
use Rattle.std.proofs.lemmas.List.{length-drop}
use Rattle.amqp_wire.specs.declared.error.Error.{Error}
use Rattle.amqp_model.specs.Term.{Term, leaf, container, described, kept, barred, list, map, array, Descriptor}
use Rattle.amqp_model.specs.Constructors.{format}
use Rattle.amqp_model.specs.Spelling.{IsKnown, Constructor, IsDataOf, IsSpelling}
use Rattle.amqp_model.specs.Measures.{nest}
use Rattle.amqp_model.proofs.Bytes.{rest}
use Rattle.amqp_model.proofs.Same.{constructor_same}
use Rattle.amqp_model.proofs.Unique.{data_same, one_front}
use Rattle.amqp_lengths.specs.Fronts.{IsFront, Refuses}
use Rattle.amqp_lengths.specs.Lengths.{Constructs, HasConstructor, IsTerm, IsData}
use Rattle.amqp_lengths.proofs.Fronts.{refuses_begun, refuses_behind, refuses_never}

-- the term within its descriptors
pub bare : (t : Term) (ds : List Descriptor) (c : ℕ) (b : List ℕ) → IsDataOf t ds c b → (u : Term) × IsDataOf u [] c b
    × (nest t ≡ length ds + nest u)
bare t [] c b h = (t, h, omega arith)
bare (described d t) (e ∷ ds) c b (s, h) = let (u, k, n) = bare t ds c b h in (u, k, omega (arith, n))
bare (leaf p) (e ∷ ds) c b h = absurd h
bare (container list ts) (e ∷ ds) c b h = absurd h
bare (container map ts) (e ∷ ds) c b h = absurd h
bare (container array ts) (e ∷ ds) c b h = absurd h
bare (kept k) (e ∷ ds) c b h = absurd h
bare (barred r) (e ∷ ds) c b h = absurd h

-- descriptors before a term
abbrev pub describe : List Descriptor → Term → Term
describe [] t = t
describe (d ∷ ds) t = described d (describe ds t)

pub described_data : (ds : List Descriptor) (u : Term) (c : ℕ) (b : List ℕ) → IsDataOf u [] c b → IsDataOf (describe ds u) ds c b
described_data [] u c b h = h
described_data (d ∷ ds) u c b h = (refl, described_data ds u c b h)

pub described_nest : (ds : List Descriptor) (u : Term) → nest (describe ds u) ≡ length ds + nest u
described_nest [] u = omega arith
described_nest (d ∷ ds) u = omega (arith, described_nest ds u)

constructor_known : (ds : List Descriptor) (c : ℕ) (b : List ℕ) → Constructor ds c b → IsKnown (format c)
constructor_known [] c b h = h.1
constructor_known (d ∷ ds) c b (first, second, e, n, k) = constructor_known ds c second k

pub constructs_known : (n c : ℕ) (b : List ℕ) → Constructs n c b → IsKnown (format c)
constructs_known n c b (ds, l, few, k) = constructor_known ds c b k

-- the descriptors of a constructor, and what is spelled behind it
abbrev Behind : (List Descriptor → ℕ → List ℕ → Type 0) → ℕ → ℕ → List ℕ → List ℕ → List ℕ → Type 0
Behind D n c a x y = (ds : List Descriptor) × (r : List ℕ) × (length ds ≡ n) × Constructor ds c a × (x ≡ r ++ y) × D ds c r

pub behind_constructor : (D : List Descriptor → ℕ → List ℕ → Type 0) (n c : ℕ) (a x : List ℕ) (ds : List Descriptor) (c' : ℕ)
    (first second b y : List ℕ) → Constructs n c a
    → b ≡ first ++ second → Constructor ds c' first → D ds c' second → a ++ x ≡ b ++ y → Behind D n c a x y
behind_constructor D n c a x ds c' first second b y (es, l, few, k) s k' h e =
    let all : a ++ x ≡ first ++ (second ++ y) = e ∙ ap (λ z. z ++ y) s ∙ append_assoc first second y in
    let (same, (one, code)) = constructor_same es ds c c' a first x (second ++ y) k k' all in (
      ds,
      second,
      sym (ap length one) ∙ l,
      subst (λ zs. Constructor zs c a) one k,
      rest a first x (second ++ y) (ap length same) all,
      subst (λ z. D ds z second) (sym code) h,
    )

term_behind : (k n c : ℕ) (a x b y : List ℕ) → Constructs n c a → IsTerm k b → a ++ x ≡ b ++ y → (r : List ℕ) × (x ≡ r ++ y) × (u : Term)
    × IsDataOf u [] c r × (n + nest u ≤ k)
unfolding IsSpelling
term_behind k n c a x b y h (t, (ds, c', few, (first, second, s, q, d)), deep) e =
    let (es, r, l, _, u, v) = behind_constructor (IsDataOf t) n c a x ds c' first second b y h s q d e in
    let (w, f, m) = bare t es c r v in
    (r, u, w, f, omega (arith, l, m, deep))

-- the constructor isn't there
pub term_unbegun : (k : ℕ) (input : List ℕ) (e : Error) → Refuses HasConstructor input e → Refuses (IsTerm k) input e
unfolding IsSpelling
term_unbegun k input e h =
    refuses_begun (IsTerm k) HasConstructor input e
    (λ b (t, (ds, c, few, (first, second, s, q, d)), deep). (first, second, s, (length ds, c, (ds, refl, few, q)))) h

-- it has too many descriptors
pub term_deep : (k n c len : ℕ) (input : List ℕ) (e : Error) → Constructs n c (take len input) → k < n → Refuses (IsTerm k) input e
term_deep k n c len input e h deep =
    refuses_never (IsTerm k) input len e (λ b x y t s. let (r, is, u, d, few) = term_behind k n c (take len input) x b y h t s in
    omega arith)

-- the data isn't there
pub term_short : (k n m c len : ℕ) (input : List ℕ) (e : Error) → Constructs n c (take len input) → n + m ≡ k
    → Refuses (IsData c m) (drop len input) e → Refuses (IsTerm k) input e
term_short k n m c len input e h is q =
    refuses_behind (IsTerm k) (IsData c m) input len e
    (λ b x y t s. let (r, is', u, d, few) = term_behind k n c (take len input) x b y h t s in
    (r, is', (u, d, omega (arith, few, is)))) q

pub term_found : (k n m c len l : ℕ) (input : List ℕ) → IsFront (Constructs n c) input len → n + m ≡ k
    → IsFront (IsData c m) (drop len input) l → IsFront (IsTerm k) input (len + l)
unfolding IsSpelling
term_found k n m c len l input h is q =
    let (ds, long, few, s) = h.spelled in
    let (u, d, deep) = q.spelled in
    let within = h.within in
    let within2 = q.within in
    record {
      within = omega (arith, within, within2, length-drop len input);
      spelled = (
        describe ds u,
        (
          ds,
          c,
          omega (arith, long, few),
          (take len input, take l (drop len input), take-add len l input, s, described_data ds u c (take l (drop len input)) d),
        ),
        omega (arith, described_nest ds u, long, deep, is),
      );
    }

-- an input has one such front
pub term_once : (k : ℕ) (b b' x y : List ℕ) → IsTerm k b → IsTerm k b' → b ++ x ≡ b' ++ y → b ≡ b'
term_once k b b' x y (t, h, deep) (t', h', deep') e = one_front b b' x y t t' h h' e

pub data_once : (c k : ℕ) (b b' x y : List ℕ) → IsData c k b → IsData c k b' → b ++ x ≡ b' ++ y → b ≡ b'
data_once c k b b' x y (t, h, deep) (t', h', deep') e = (data_same t t' [] c b b' x y h h' e).0
