-- What the codes of the table say of their data.
use Rattle.std.proofs.Common.{◌≡◌, ℕ, zero, suc, ◌<◌, ◌≤◌, ◌⊎◌, inl, inr, Bool, true, false, ◌||◌, cond, eqb, leb, List, [], ◌∷◌, Option}
use Rattle.std.proofs.Common.{Some, refl, sym, ap, ◌∙◌, subst, arith}
use Rattle.std.proofs.lemmas.Bool.{eqb-true}
use Rattle.amqp_model.specs.Term.{Primitive, ulong, symbol, Container, Descriptor, name, code}
use Rattle.amqp_model.specs.Constructors.{Format, fixed, variable, compound, unknown, format, constructors, look_up, boolean_byte}
use Rattle.amqp_model.specs.Spelling.{PrimitiveData, IsKnown, HasWidthZero, descriptor_value}
use Rattle.amqp_lengths.specs.Pieces.{width_of, fixed_width, IsPrimitive, IsValue, IsDescriptorCode}

-- two facts as one
both : {A B : Type 0} → A → B → A × B
both a b = (a, b)

abbrev EachRow : (ℕ → Format → Type 0) → List (ℕ × Format) → Type 0
EachRow P [] = Unit {0}
EachRow P (row ∷ rows) = P row.0 row.1 × EachRow P rows

at_test : (P : ℕ → Format → Type 0) (c d : ℕ) (t : Bool) (F G : Format) → eqb c d ≡ t → P d F → P c G → P c (cond t F G)
at_test P c d true F G e h k = subst (λ n. P n F) (sym (eqb-true c d e)) h
at_test P c d false F G e h k = k

-- what holds of each row holds of what a code announces
at_rows : (P : ℕ → Format → Type 0) (c : ℕ) → P c unknown → (rows : List (ℕ × Format)) → EachRow P rows → P c (look_up c rows)
at_rows P c u [] h = u
at_rows P c u (row ∷ rows) h = at_test P c row.0 (eqb c row.0) row.1 (look_up c rows) refl h.0 (at_rows P c u rows h.1)

abbrev FixedRow : ℕ → Format → Type 0
FixedRow c F = c < 0xa0 → IsPrimitive F → (value : List ℕ → Option Primitive) × (F ≡ fixed (fixed_width c) value)

fixed_rows : EachRow FixedRow constructors
fixed_rows =
    (both (λ l k. (_, refl)) (both (λ l k. (_, refl)) (both (λ l k. (_, refl)) (both (λ l k. (_, refl)) (both (λ l k. (_, refl))
    (both (λ l k. absurd k) (both (λ l k. (_, refl)) (both (λ l k. (_, refl)) (both (λ l k. (_, refl)) (both (λ l k. (_, refl))
    (both (λ l k. (_, refl)) (both (λ l k. (_, refl)) (both (λ l k. (_, refl)) (both (λ l k. (_, refl)) (both (λ l k. (_, refl))
    (both (λ l k. (_, refl)) (both (λ l k. (_, refl)) (both (λ l k. (_, refl)) (both (λ l k. (_, refl)) (both (λ l k. (_, refl))
    (both (λ l k. (_, refl)) (both (λ l k. (_, refl)) (both (λ l k. (_, refl)) (both (λ l k. (_, refl)) (both (λ l k. (_, refl))
    (both (λ l k. absurd (omega arith)) (both (λ l k. absurd (omega arith)) (both (λ l k. absurd (omega arith))
    (both (λ l k. absurd (omega arith)) (both (λ l k. absurd (omega arith)) (both (λ l k. absurd (omega arith)) (both (λ l k. absurd k)
    (both (λ l k. absurd k) (both (λ l k. absurd k) (both (λ l k. absurd k) (both (λ l k. absurd k)
    (both (λ l k. absurd k) tt)))))))))))))))))))))))))))))))))))))

pub fixed_at : (c : ℕ) → c < 0xa0 → IsPrimitive (format c) → (value : List ℕ → Option Primitive) × (format c ≡ fixed (fixed_width c) value)
fixed_at c = at_rows FixedRow c (λ l k. absurd k) constructors fixed_rows

abbrev SizedRow : ℕ → Format → Type 0
SizedRow c F = 0xa0 ≤ c → IsPrimitive F → (value : List ℕ → Option Primitive) × (F ≡ variable (width_of (leb 0xb0 c)) value)

sized_rows : EachRow SizedRow constructors
sized_rows =
    (both (λ l k. absurd (omega arith)) (both (λ l k. absurd (omega arith)) (both (λ l k. absurd (omega arith))
    (both (λ l k. absurd (omega arith)) (both (λ l k. absurd (omega arith)) (both (λ l k. absurd k) (both (λ l k. absurd (omega arith))
    (both (λ l k. absurd (omega arith)) (both (λ l k. absurd (omega arith)) (both (λ l k. absurd (omega arith))
    (both (λ l k. absurd (omega arith)) (both (λ l k. absurd (omega arith)) (both (λ l k. absurd (omega arith))
    (both (λ l k. absurd (omega arith)) (both (λ l k. absurd (omega arith)) (both (λ l k. absurd (omega arith))
    (both (λ l k. absurd (omega arith)) (both (λ l k. absurd (omega arith)) (both (λ l k. absurd (omega arith))
    (both (λ l k. absurd (omega arith)) (both (λ l k. absurd (omega arith)) (both (λ l k. absurd (omega arith))
    (both (λ l k. absurd (omega arith)) (both (λ l k. absurd (omega arith)) (both (λ l k. absurd (omega arith)) (both (λ l k. (_, refl))
    (both (λ l k. (_, refl)) (both (λ l k. (_, refl)) (both (λ l k. (_, refl)) (both (λ l k. (_, refl)) (both (λ l k. (_, refl))
    (both (λ l k. absurd k) (both (λ l k. absurd k) (both (λ l k. absurd k) (both (λ l k. absurd k) (both (λ l k. absurd k)
    (both (λ l k. absurd k) tt)))))))))))))))))))))))))))))))))))))

pub sized_at : (c : ℕ) → 0xa0 ≤ c → IsPrimitive (format c) → (value : List ℕ → Option Primitive)
    × (format c ≡ variable (width_of (leb 0xb0 c)) value)
sized_at c = at_rows SizedRow c (λ l k. absurd k) constructors sized_rows

-- none of the codes under which not all bytes are values
abbrev pub IsFree : ℕ → Type 0
IsFree c = (c ≡ 0x56 → ⊥) × (c ≡ 0x73 → ⊥) × ((c ≡ 0xa1) ⊎ (c ≡ 0xb1) → ⊥) × ((c ≡ 0xa3) ⊎ (c ≡ 0xb3) → ⊥)

abbrev FreeRow : ℕ → Format → Type 0
FreeRow c F = IsFree c → IsPrimitive F → (b : List ℕ) → IsValue F b

free_rows : EachRow FreeRow constructors
free_rows =
    (both (λ n k b. (_, refl, tt)) (both (λ n k b. (_, refl, tt)) (both (λ n k b. (_, refl, tt)) (both (λ n k b. (_, refl, tt))
    (both (λ n k b. (_, refl, tt)) (both (λ n k b. absurd k) (both (λ n k b. (_, refl, tt)) (both (λ n k b. (_, refl, tt))
    (both (λ n k b. (_, refl, tt)) (both (λ n k b. (_, refl, tt)) (both (λ n k b. (_, refl, tt)) (both (λ n k b. (_, refl, tt))
    (both (λ n k b. absurd (n.0 refl)) (both (λ n k b. (_, refl, tt)) (both (λ n k b. (_, refl, tt)) (both (λ n k b. (_, refl, tt))
    (both (λ n k b. (_, refl, tt)) (both (λ n k b. absurd (n.1 refl)) (both (λ n k b. (_, refl, tt)) (both (λ n k b. (_, refl, tt))
    (both (λ n k b. (_, refl, tt)) (both (λ n k b. (_, refl, tt)) (both (λ n k b. (_, refl, tt)) (both (λ n k b. (_, refl, tt))
    (both (λ n k b. (_, refl, tt)) (both (λ n k b. (_, refl, tt)) (both (λ n k b. absurd (n.2 (inl refl)))
    (both (λ n k b. absurd (n.3 (inl refl))) (both (λ n k b. (_, refl, tt)) (both (λ n k b. absurd (n.2 (inr refl)))
    (both (λ n k b. absurd (n.3 (inr refl))) (both (λ n k b. absurd k) (both (λ n k b. absurd k) (both (λ n k b. absurd k)
    (both (λ n k b. absurd k) (both (λ n k b. absurd k) (both (λ n k b. absurd k) tt)))))))))))))))))))))))))))))))))))))

pub free_at : (c : ℕ) → IsFree c → IsPrimitive (format c) → (b : List ℕ) → IsValue (format c) b
free_at c = at_rows FreeRow c (λ n k b. absurd k) constructors free_rows

-- none of the codes of lists, maps and arrays
abbrev pub IsNoContainer : ℕ → Type 0
IsNoContainer c = (c ≡ 0x45 → ⊥) × (c ≡ 0xc0 → ⊥) × (c ≡ 0xd0 → ⊥) × (c ≡ 0xc1 → ⊥) × (c ≡ 0xd1 → ⊥) × (c ≡ 0xe0 → ⊥) × (c ≡ 0xf0 → ⊥)

abbrev PrimitiveRow : ℕ → Format → Type 0
PrimitiveRow c F = IsKnown F → IsNoContainer c → IsPrimitive F

primitive_rows : EachRow PrimitiveRow constructors
primitive_rows =
    (both (λ k n. tt) (both (λ k n. tt) (both (λ k n. tt) (both (λ k n. tt) (both (λ k n. tt) (both (λ k n. absurd (n.0 refl))
    (both (λ k n. tt) (both (λ k n. tt) (both (λ k n. tt) (both (λ k n. tt) (both (λ k n. tt) (both (λ k n. tt) (both (λ k n. tt)
    (both (λ k n. tt) (both (λ k n. tt) (both (λ k n. tt) (both (λ k n. tt) (both (λ k n. tt) (both (λ k n. tt) (both (λ k n. tt)
    (both (λ k n. tt) (both (λ k n. tt) (both (λ k n. tt) (both (λ k n. tt) (both (λ k n. tt) (both (λ k n. tt) (both (λ k n. tt)
    (both (λ k n. tt) (both (λ k n. tt) (both (λ k n. tt) (both (λ k n. tt) (both (λ k n. absurd (n.1 refl))
    (both (λ k n. absurd (n.3 refl)) (both (λ k n. absurd (n.2 refl)) (both (λ k n. absurd (n.4 refl)) (both (λ k n. absurd (n.5 refl))
    (both (λ k n. absurd (n.6 refl)) tt)))))))))))))))))))))))))))))))))))))

pub primitive_at : (c : ℕ) → IsKnown (format c) → IsNoContainer c → IsPrimitive (format c)
primitive_at c = at_rows PrimitiveRow c (λ k n. k) constructors primitive_rows

abbrev ZeroRow : ℕ → Format → Type 0
ZeroRow c F = (HasWidthZero F → (0x40 ≤ c) × (c ≤ 0x45)) × ((0x40 ≤ c) × (c ≤ 0x45) → IsKnown F → HasWidthZero F)

zero_rows : EachRow ZeroRow constructors
zero_rows =
    (both (λ h. (omega arith, omega arith), λ h k. tt) (both (λ h. (omega arith, omega arith), λ h k. tt)
    (both (λ h. (omega arith, omega arith), λ h k. tt) (both (λ h. (omega arith, omega arith), λ h k. tt)
    (both (λ h. (omega arith, omega arith), λ h k. tt) (both (λ h. (omega arith, omega arith), λ h k. tt)
    (both (λ h. absurd h, λ (l, m) k. absurd (omega arith)) (both (λ h. absurd h, λ (l, m) k. absurd (omega arith))
    (both (λ h. absurd h, λ (l, m) k. absurd (omega arith)) (both (λ h. absurd h, λ (l, m) k. absurd (omega arith))
    (both (λ h. absurd h, λ (l, m) k. absurd (omega arith)) (both (λ h. absurd h, λ (l, m) k. absurd (omega arith))
    (both (λ h. absurd h, λ (l, m) k. absurd (omega arith)) (both (λ h. absurd h, λ (l, m) k. absurd (omega arith))
    (both (λ h. absurd h, λ (l, m) k. absurd (omega arith)) (both (λ h. absurd h, λ (l, m) k. absurd (omega arith))
    (both (λ h. absurd h, λ (l, m) k. absurd (omega arith)) (both (λ h. absurd h, λ (l, m) k. absurd (omega arith))
    (both (λ h. absurd h, λ (l, m) k. absurd (omega arith)) (both (λ h. absurd h, λ (l, m) k. absurd (omega arith))
    (both (λ h. absurd h, λ (l, m) k. absurd (omega arith)) (both (λ h. absurd h, λ (l, m) k. absurd (omega arith))
    (both (λ h. absurd h, λ (l, m) k. absurd (omega arith)) (both (λ h. absurd h, λ (l, m) k. absurd (omega arith))
    (both (λ h. absurd h, λ (l, m) k. absurd (omega arith)) (both (λ h. absurd h, λ (l, m) k. absurd (omega arith))
    (both (λ h. absurd h, λ (l, m) k. absurd (omega arith)) (both (λ h. absurd h, λ (l, m) k. absurd (omega arith))
    (both (λ h. absurd h, λ (l, m) k. absurd (omega arith)) (both (λ h. absurd h, λ (l, m) k. absurd (omega arith))
    (both (λ h. absurd h, λ (l, m) k. absurd (omega arith)) (both (λ h. absurd h, λ (l, m) k. absurd (omega arith))
    (both (λ h. absurd h, λ (l, m) k. absurd (omega arith)) (both (λ h. absurd h, λ (l, m) k. absurd (omega arith))
    (both (λ h. absurd h, λ (l, m) k. absurd (omega arith)) (both (λ h. absurd h, λ (l, m) k. absurd (omega arith))
    (both (λ h. absurd h, λ (l, m) k. absurd (omega arith)) tt)))))))))))))))))))))))))))))))))))))

pub zero_at : (c : ℕ) → (HasWidthZero (format c) → (0x40 ≤ c) × (c ≤ 0x45))
    × ((0x40 ≤ c) × (c ≤ 0x45) → IsKnown (format c) → HasWidthZero (format c))
zero_at c = at_rows ZeroRow c (λ h. absurd h, λ h k. absurd k) constructors zero_rows

-- the code of a list, map or array
abbrev pub is_container : ℕ → Bool
is_container c = eqb c 0x45 || leb 0xc0 c

abbrev pub Divided : ℕ → Format → Type 0
Divided c F = (IsPrimitive F × (is_container c ≡ false)) ⊎ ((kind : Container) × (w : ℕ) × (F ≡ compound kind w) × (is_container c ≡ true))

abbrev ContainerRow : ℕ → Format → Type 0
ContainerRow c F = IsKnown F → Divided c F

container_rows : EachRow ContainerRow constructors
container_rows =
    (both (λ k. inl (tt, refl)) (both (λ k. inl (tt, refl)) (both (λ k. inl (tt, refl)) (both (λ k. inl (tt, refl))
    (both (λ k. inl (tt, refl)) (both (λ k. inr (_, _, refl, refl)) (both (λ k. inl (tt, refl)) (both (λ k. inl (tt, refl))
    (both (λ k. inl (tt, refl)) (both (λ k. inl (tt, refl)) (both (λ k. inl (tt, refl)) (both (λ k. inl (tt, refl))
    (both (λ k. inl (tt, refl)) (both (λ k. inl (tt, refl)) (both (λ k. inl (tt, refl)) (both (λ k. inl (tt, refl))
    (both (λ k. inl (tt, refl)) (both (λ k. inl (tt, refl)) (both (λ k. inl (tt, refl)) (both (λ k. inl (tt, refl))
    (both (λ k. inl (tt, refl)) (both (λ k. inl (tt, refl)) (both (λ k. inl (tt, refl)) (both (λ k. inl (tt, refl))
    (both (λ k. inl (tt, refl)) (both (λ k. inl (tt, refl)) (both (λ k. inl (tt, refl)) (both (λ k. inl (tt, refl))
    (both (λ k. inl (tt, refl)) (both (λ k. inl (tt, refl)) (both (λ k. inl (tt, refl)) (both (λ k. inr (_, _, refl, refl))
    (both (λ k. inr (_, _, refl, refl)) (both (λ k. inr (_, _, refl, refl)) (both (λ k. inr (_, _, refl, refl))
    (both (λ k. inr (_, _, refl, refl)) (both (λ k. inr (_, _, refl, refl)) tt)))))))))))))))))))))))))))))))))))))

pub container_at : (c : ℕ) → IsKnown (format c) → Divided c (format c)
container_at c = at_rows ContainerRow c (λ k. absurd k) constructors container_rows

-- what may be a descriptor
abbrev is_mark : Option Primitive → Bool
is_mark (Some (ulong n)) = true
is_mark (Some (symbol s)) = true
is_mark _ = false

mark_true : (d : Descriptor) → is_mark (Some (descriptor_value d)) ≡ true
mark_true (name s) = refl
mark_true (code n) = refl

no_mark : (d : Descriptor) (o : Option Primitive) → is_mark o ≡ false → o ≡ Some (descriptor_value d) → ⊥
no_mark d o f e = let same : false ≡ true = sym f ∙ ap is_mark e ∙ mark_true d in cc

boolean_no_mark : (b : List ℕ) → is_mark (boolean_byte b) ≡ false
boolean_no_mark [] = refl
boolean_no_mark (zero ∷ []) = refl
boolean_no_mark (suc zero ∷ []) = refl
boolean_no_mark (suc (suc n) ∷ []) = refl
boolean_no_mark (zero ∷ y ∷ r) = refl
boolean_no_mark (suc zero ∷ y ∷ r) = refl
boolean_no_mark (suc (suc n) ∷ y ∷ r) = refl

abbrev MarkRow : ℕ → Format → Type 0
MarkRow c F = (d : Descriptor) (b : List ℕ) → PrimitiveData F (descriptor_value d) b → IsDescriptorCode c

mark_rows : EachRow MarkRow constructors
mark_rows =
    (both (λ d b h. absurd (no_mark d _ refl h.1)) (both (λ d b h. absurd (no_mark d _ refl h.1))
    (both (λ d b h. absurd (no_mark d _ refl h.1)) (both (λ d b h. absurd (no_mark d _ refl h.1)) (both (λ d b h. inl refl)
    (both (λ d b h. absurd h) (both (λ d b h. absurd (no_mark d _ refl h.1)) (both (λ d b h. absurd (no_mark d _ refl h.1))
    (both (λ d b h. absurd (no_mark d _ refl h.1)) (both (λ d b h. inr (inl refl)) (both (λ d b h. absurd (no_mark d _ refl h.1))
    (both (λ d b h. absurd (no_mark d _ refl h.1)) (both (λ d b h. absurd (no_mark d (boolean_byte b) (boolean_no_mark b) h.1))
    (both (λ d b h. absurd (no_mark d _ refl h.1)) (both (λ d b h. absurd (no_mark d _ refl h.1))
    (both (λ d b h. absurd (no_mark d _ refl h.1)) (both (λ d b h. absurd (no_mark d _ refl h.1))
    (both (λ d b h. absurd (no_mark d _ refl h.1)) (both (λ d b h. absurd (no_mark d _ refl h.1)) (both (λ d b h. inr (inr (inl refl)))
    (both (λ d b h. absurd (no_mark d _ refl h.1)) (both (λ d b h. absurd (no_mark d _ refl h.1))
    (both (λ d b h. absurd (no_mark d _ refl h.1)) (both (λ d b h. absurd (no_mark d _ refl h.1))
    (both (λ d b h. absurd (no_mark d _ refl h.1)) (both (λ d b h. absurd (no_mark d _ refl h.3))
    (both (λ d b h. absurd (no_mark d _ refl h.3)) (both (λ d b h. inr (inr (inr (inl refl))))
    (both (λ d b h. absurd (no_mark d _ refl h.3)) (both (λ d b h. absurd (no_mark d _ refl h.3))
    (both (λ d b h. inr (inr (inr (inr refl)))) (both (λ d b h. absurd h) (both (λ d b h. absurd h) (both (λ d b h. absurd h)
    (both (λ d b h. absurd h) (both (λ d b h. absurd h) (both (λ d b h. absurd h) tt)))))))))))))))))))))))))))))))))))))

pub mark_at : (c : ℕ) (d : Descriptor) (b : List ℕ) → PrimitiveData (format c) (descriptor_value d) b → IsDescriptorCode c
mark_at c = at_rows MarkRow c (λ d b h. absurd h) constructors mark_rows
