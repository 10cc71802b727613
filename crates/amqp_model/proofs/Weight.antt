-- What a limit on the weight of terms bounds.
use Rattle.std.proofs.Common.{◌≡◌, ℕ, suc, zero, ◌+◌, ◌*◌, ◌≤◌, Bool, true, false, List, [], ◌∷◌, length, refl, ap}
use Rattle.std.proofs.Common.{arith, Option, Some}
use Rattle.std.proofs.Math.Nat.{mul-add}
use Rattle.std.specs.Int.{w8, w16, w32, w64}
use Rattle.amqp_model.specs.Term.{Primitive, Container, list, map, array, Term, Terms, leaf, container, described, kept, barred, none, more}
use Rattle.amqp_model.specs.Term.{Descriptor, name, code, count, null, boolean, ubyte, ushort, uint, ulong, byte, short, int, long, char}
use Rattle.amqp_model.specs.Term.{timestamp, decimal32, decimal64, decimal128, uuid, binary, string, symbol}
use Rattle.amqp_model.specs.Constructors.{Format, fixed, variable, compound, unknown, format, constructors, boolean_byte, unsigned, signed}
use Rattle.amqp_model.specs.Spelling.{PrimitiveData, ContainerData, Names, Constructor, IsDataOf, AreItemsOf, AreElementsOf, AreSharedDataOf}
use Rattle.amqp_model.specs.Spelling.{IsSpelling}
use Rattle.amqp_model.specs.Measures.{nodes, all_nodes, share, weight, weights, over_descriptors, over_all_descriptors, name_length}
use Rattle.amqp_model.proofs.Lengths.{joined_length, sized_length, frame_length}
use Rattle.amqp_model.proofs.Shortest.{AllRows, ◌⨾◌, each_row}

mutual
  pub nodes_weigh : (t : Term) (s : Bool) → nodes t ≤ weight t s
  nodes_weigh (container list ts) s = omega (arith, all_weigh ts false)
  nodes_weigh (container map ts) s = omega (arith, all_weigh ts false)
  nodes_weigh (container array ts) s = omega (arith, all_weigh ts true)
  nodes_weigh (described d t) false = nodes_weigh t false
  nodes_weigh (described d t) true = omega (arith, nodes_weigh t true)
  nodes_weigh (leaf p) s = omega arith
  nodes_weigh (kept b) s = omega arith
  nodes_weigh (barred r) s = omega arith

  all_weigh : (ts : Terms) (s : Bool) → all_nodes ts ≤ weights ts s
  all_weigh none s = omega arith
  all_weigh (more t ts) s = omega (arith, nodes_weigh t s, all_weigh ts s)

-- data is no shorter than the content in it
content_in : (F : Format) (k : Container) (n : ℕ) (C : List ℕ → Type 0) (d : List ℕ) → ContainerData F k n C d
    → (b : List ℕ) × C b × (length b ≤ length d)
content_in (compound k' w) k n C d (is, size, content, s, c, fits, room, e) =
    (content, c, omega (arith, frame_length w size n content d e))
content_in (fixed w v) k n C d h = absurd h
content_in (variable w v) k n C d h = absurd h
content_in unknown k n C d h = absurd h

-- A name is no longer than any of its spellings.

abbrev symbol_length : Option Primitive → ℕ
symbol_length (Some (symbol s)) = length s
symbol_length _ = 0

abbrev HoldsName : Format → Type 0
HoldsName F = (s d : List ℕ) → PrimitiveData F (symbol s) d → length s ≤ length d

no_symbol : (w : ℕ) (value : List ℕ → Option Primitive) → ((b : List ℕ) → symbol_length (value b) ≡ 0) → HoldsName (fixed w value)
no_symbol w value zeros s d (e, v, _) = let l : symbol_length (value d) ≡ length s = ap symbol_length v in omega (arith, zeros d, l)

sized_symbol : (w : ℕ) (value : List ℕ → Option Primitive) → ((b : List ℕ) → symbol_length (value b) ≤ length b) → HoldsName (variable w value)
sized_symbol w value most s d (content, fits, e, v, _) =
    let l : symbol_length (value content) ≡ length s = ap symbol_length v in
    omega (arith, sized_length w content d e, most content, l)

no_boolean : (b : List ℕ) → symbol_length (boolean_byte b) ≡ 0
no_boolean (zero ∷ []) = refl
no_boolean (suc zero ∷ []) = refl
no_boolean _ = refl

no_container : (k : Container) (w : ℕ) → HoldsName (compound k w)
no_container k w s d h = absurd h

no_format : HoldsName unknown
no_format s d h = absurd h

all_names : AllRows HoldsName constructors
unfolding AllRows
all_names =
    no_symbol 0 (λ b. Some null) (λ b. refl)
    ⨾ no_symbol 0 (λ b. Some (boolean true)) (λ b. refl)
    ⨾ no_symbol 0 (λ b. Some (boolean false)) (λ b. refl)
    ⨾ no_symbol 0 (λ b. Some (uint 0)) (λ b. refl)
    ⨾ no_symbol 0 (λ b. Some (ulong 0)) (λ b. refl)
    ⨾ no_container list 0
    ⨾ no_symbol 1 (unsigned w8 ubyte) (λ b. refl)
    ⨾ no_symbol 1 (signed w8 byte) (λ b. refl)
    ⨾ no_symbol 1 (unsigned w8 uint) (λ b. refl)
    ⨾ no_symbol 1 (unsigned w8 ulong) (λ b. refl)
    ⨾ no_symbol 1 (signed w8 int) (λ b. refl)
    ⨾ no_symbol 1 (signed w8 long) (λ b. refl)
    ⨾ no_symbol 1 boolean_byte no_boolean
    ⨾ no_symbol 2 (unsigned w16 ushort) (λ b. refl)
    ⨾ no_symbol 2 (signed w16 short) (λ b. refl)
    ⨾ no_symbol 4 (unsigned w32 uint) (λ b. refl)
    ⨾ no_symbol 4 (signed w32 int) (λ b. refl)
    ⨾ no_symbol 4 (unsigned w32 char) (λ b. refl)
    ⨾ no_symbol 4 (λ b. Some (decimal32 b)) (λ b. refl)
    ⨾ no_symbol 8 (unsigned w64 ulong) (λ b. refl)
    ⨾ no_symbol 8 (signed w64 long) (λ b. refl)
    ⨾ no_symbol 8 (signed w64 timestamp) (λ b. refl)
    ⨾ no_symbol 8 (λ b. Some (decimal64 b)) (λ b. refl)
    ⨾ no_symbol 16 (λ b. Some (decimal128 b)) (λ b. refl)
    ⨾ no_symbol 16 (λ b. Some (uuid b)) (λ b. refl)
    ⨾ sized_symbol 1 (λ b. Some (binary b)) (λ b. omega arith)
    ⨾ sized_symbol 1 (λ b. Some (string b)) (λ b. omega arith)
    ⨾ sized_symbol 1 (λ b. Some (symbol b)) (λ b. omega arith)
    ⨾ sized_symbol 4 (λ b. Some (binary b)) (λ b. omega arith)
    ⨾ sized_symbol 4 (λ b. Some (string b)) (λ b. omega arith)
    ⨾ sized_symbol 4 (λ b. Some (symbol b)) (λ b. omega arith)
    ⨾ no_container list 1
    ⨾ no_container map 1
    ⨾ no_container list 4
    ⨾ no_container map 4
    ⨾ no_container array 1
    ⨾ no_container array 4
    ⨾ no_format

name_spelled : (c : ℕ) → HoldsName (format c)
name_spelled = each_row HoldsName constructors all_names

-- A number that each descriptor has, at most as many as the bytes of its spelling with the 0 before it, and so many for each that a share
-- counts.
pub record IsBounded (f : Descriptor → ℕ) (a : ℕ) : Type 0 where
  pub own : (d : Descriptor) (b : List ℕ) → Names d b → f d ≤ suc (length b)
  pub shared : (d : Descriptor) → f d ≤ a * share d

module _ (f : Descriptor → ℕ) (a : ℕ) (few : IsBounded f a) where
  abbrev sum : List Descriptor → ℕ
  sum [] = 0
  sum (d ∷ ds) = f d + sum ds

  -- what a constructor of its own adds
  abbrev extra : Bool → List Descriptor → ℕ
  extra true ds = 0
  extra false ds = sum ds

  no_extra : (s : Bool) → extra s [] ≡ 0
  no_extra true = refl
  no_extra false = refl

  constructor_bound : (ds : List Descriptor) (c : ℕ) (b : List ℕ) → Constructor ds c b → suc (sum ds) ≤ length b
  constructor_bound [] c b h = omega (arith, ap length h.0)
  constructor_bound (d ∷ ds) c b (first, second, e, n, h) =
      omega (arith, joined_length b (0 ∷ first) second e, few.own d first n, constructor_bound ds c second h)

  mutual
    data_bound : (t : Term) (s : Bool) (ds : List Descriptor) (c : ℕ) (d : List ℕ) → IsDataOf t ds c d
        → over_descriptors f t ≤ extra s ds + length d + a * weight t s
    data_bound (leaf p) s [] c d h = omega arith
    data_bound (leaf p) s (e ∷ ds) c d h = absurd h
    data_bound (container list ts) s [] c d h =
        let (b, i, l) = content_in (format c) list (count ts) (AreItemsOf ts) d h in
        omega (arith, l, items_bound ts b i, mul-add a 1 (weights ts false), no_extra s)
    data_bound (container list ts) s (e ∷ ds) c d h = absurd h
    data_bound (container map ts) s [] c d h =
        let (b, i, l) = content_in (format c) map (count ts) (AreItemsOf ts) d h.1 in
        omega (arith, l, items_bound ts b i, mul-add a 1 (weights ts false), no_extra s)
    data_bound (container map ts) s (e ∷ ds) c d h = absurd h
    data_bound (container array ts) s [] c d h =
        let (b, i, l) = content_in (format c) array (count ts) (AreElementsOf ts) d h in
        omega (arith, l, elements_bound ts b i, mul-add a 1 (weights ts true), no_extra s)
    data_bound (container array ts) s (e ∷ ds) c d h = absurd h
    data_bound (described g t) s [] c d h = absurd h
    data_bound (described g t) false (e ∷ ds) c d h = omega (arith, data_bound t false ds c d h.1, ap f h.0)
    data_bound (described g t) true (e ∷ ds) c d h =
        omega (arith, data_bound t true ds c d h.1, few.shared g, mul-add a (share g) (weight t true))
    data_bound (kept b) s ds c d h = absurd h
    data_bound (barred r) s ds c d h = absurd h

    items_bound : (ts : Terms) (b : List ℕ) → AreItemsOf ts b → over_all_descriptors f ts ≤ length b + a * weights ts false
    items_bound none b h = omega arith
    items_bound (more t ts) b (first, second, e, (ds, c, few_, (h, d, e', k, s)), rest) =
        omega (
          arith,
          joined_length b first second e,
          joined_length first h d e',
          constructor_bound ds c h k,
          data_bound t false ds c d s,
          items_bound ts second rest,
          mul-add a (weight t false) (weights ts false),
        )

    elements_bound : (ts : Terms) (b : List ℕ) → AreElementsOf ts b → over_all_descriptors f ts ≤ length b + a * weights ts true
    elements_bound none b h = omega arith
    elements_bound (more t ts) b (ds, c, few_, (h, d, e, k, (some, (first, second, e', s, rest)))) =
        omega (
          arith,
          joined_length b h d e,
          joined_length d first second e',
          data_bound t true ds c first s,
          shared_bound ts ds c second rest,
          mul-add a (weight t true) (weights ts true),
        )

    shared_bound : (ts : Terms) (ds : List Descriptor) (c : ℕ) (b : List ℕ) → AreSharedDataOf ts ds c b
        → over_all_descriptors f ts ≤ length b + a * weights ts true
    shared_bound none ds c b h = omega arith
    shared_bound (more t ts) ds c b (first, second, e, s, rest) =
        omega (
          arith,
          joined_length b first second e,
          data_bound t true ds c first s,
          shared_bound ts ds c second rest,
          mul-add a (weight t true) (weights ts true),
        )

  pub all_bounded : (b : List ℕ) (t : Term) → IsSpelling b t → over_descriptors f t ≤ length b + a * weight t false
  unfolding IsSpelling
  all_bounded b t (ds, c, few_, (h, d, e, k, s)) =
      omega (arith, joined_length b h d e, constructor_bound ds c h k, data_bound t false ds c d s)

some_share : (d : Descriptor) → 1 ≤ share d
some_share (name s) = omega arith
some_share (code n) = omega arith

pub marks_bounded : (b : List ℕ) (t : Term) → IsSpelling b t → over_descriptors (λ d. 1) t ≤ length b + weight t false
marks_bounded b t h =
    omega (
      arith,
      all_bounded (λ d. 1) 1 (record { own = λ d s n. omega arith; shared = λ d. omega (arith, some_share d) }) b t h,
    )

name_own : (d : Descriptor) (b : List ℕ) → Names d b → name_length d ≤ suc (length b)
name_own (name s) b (c, d, e, h) = omega (arith, ap length e, name_spelled c s d h)
name_own (code n) b h = omega arith

name_shared : (d : Descriptor) → name_length d ≤ 32 * share d
name_shared (name s) = omega arith
name_shared (code n) = omega arith

pub names_bounded : (b : List ℕ) (t : Term) → IsSpelling b t → over_descriptors name_length t ≤ length b + 32 * weight t false
names_bounded b t h = all_bounded name_length 32 (record { own = name_own; shared = name_shared }) b t h
