-- The data of primitives, found and refused.
use Rattle.std.proofs.Common.{◌≡◌, ℕ, zero, suc, ◌<◌, ◌≤◌, ◌⊎◌, inl, inr, List, [], ◌∷◌, ◌++◌, length, take, get_or, Option, Some, None}
use Rattle.std.proofs.Common.{true, false, IsUtf8, IsAscii, refl, sym, ap, ◌∙◌, subst, arith, append_assoc}
use Rattle.std.specs.Option.{SomeIff, is_some}
use Rattle.std.specs.Char.{IsScalar}
use Rattle.std.specs.Int.{bytes_high_first, from_be_bytes, w32}
use Rattle.amqp_wire.specs.declared.error.Error.{Error}
use Rattle.amqp_wire.specs.declared.error.Error.TheVariants.{Cut}
use Rattle.amqp_model.specs.Term.{Primitive, boolean, char, string, symbol}
use Rattle.amqp_model.specs.Constructors.{Format, fixed, variable, format}
use Rattle.amqp_model.specs.Spelling.{PrimitiveData}
use Rattle.amqp_model.proofs.Bytes.{field, front, rest}
use Rattle.amqp_lengths.specs.Fronts.{IsFront, Refuses}
use Rattle.amqp_lengths.specs.Pieces.{IsSized, HasSize, IsValue}
use Rattle.amqp_lengths.proofs.Fronts.{refuses_part, refuses_never, refuses_short, same_front}

abbrev pub AnyData : Format → List ℕ → Type 0
AnyData F b = (p : Primitive) × PrimitiveData F p b

pub fixed_short : (F : Format) (w : ℕ) (value : List ℕ → Option Primitive) (input : List ℕ) (e : Error) → F ≡ fixed w value
    → (e ≡ Cut) × (length input < w) → Refuses (AnyData F) input e
fixed_short F w value input e is h =
    subst (λ G. Refuses (AnyData G) input e) (sym is)
    (refuses_short (AnyData (fixed w value)) input w e (λ b (p, (l, d, ok)). omega arith) h)

pub fixed_bad : (F : Format) (w : ℕ) (value : List ℕ → Option Primitive) (input : List ℕ) (e : Error) → F ≡ fixed w value → w ≤ length input
    → (IsValue F (take w input) → ⊥) → Refuses (AnyData F) input e
fixed_bad F w value input e is few bad =
    subst (λ G. Refuses (AnyData G) input e) (sym is)
    (refuses_never (AnyData (fixed w value)) input w e (λ b x y (p, (l, d, ok)) s.
    subst (λ G. IsValue G (take w input) → ⊥) is bad (p, ap value (sym (same_front w input x b y few l s)) ∙ d, ok)))

pub sized_short : (F : Format) (w : ℕ) (value : List ℕ → Option Primitive) (input : List ℕ) (e : Error) → F ≡ variable w value
    → Refuses (HasSize w) input e → Refuses (AnyData F) input e
sized_short F w value input e is h =
    subst (λ G. Refuses (AnyData G) input e) (sym is)
    (refuses_part (AnyData (variable w value)) (HasSize w) input e (λ b (p, (content, fits, s, d, ok)). (content, (fits, s))) h)

-- a size and as many bytes are in front in one way
pub same_content : (w : ℕ) (content content' b b' x y : List ℕ) → IsSized w content b → IsSized w content' b' → b ++ x ≡ b' ++ y
    → (content ≡ content') × (x ≡ y)
same_content w content content' b b' x y (fits, is) (fits', is') e =
    let size = bytes_high_first w (length content) in
    let size' = bytes_high_first w (length content') in
    let all : size ++ (content ++ x) ≡ size' ++ (content' ++ y) =
    sym (append_assoc size content x) ∙ ap (λ l. l ++ x) (sym is) ∙ e ∙ ap (λ l. l ++ y) is' ∙ append_assoc size' content' y in
    let f = field w (length content) (length content') (content ++ x) (content' ++ y) fits fits' all in
    (front content content' x y f.0 f.1, rest content content' x y f.0 f.1)

pub sized_bad : (F : Format) (w : ℕ) (value : List ℕ → Option Primitive) (content input : List ℕ) (n : ℕ) (e : Error) → F ≡ variable w value
    → IsFront (IsSized w content) input n → (IsValue F content → ⊥) → Refuses (AnyData F) input e
sized_bad F w value content input n e is found bad =
    subst (λ G. Refuses (AnyData G) input e) (sym is)
    (refuses_never (AnyData (variable w value)) input n e (λ b x y (p, (content', fits, s, d, ok)) r.
    let same = same_content w content content' (take n input) b x y found.spelled (fits, s) r in
    subst (λ G. IsValue G content → ⊥) is bad (p, ap value same.0 ∙ d, ok)))

pub boolean_value : (b : List ℕ) → length b ≡ 1 → get_or b 0 0 ≤ 1 → IsValue (format 0x56) b
boolean_value [] l h = absurd (omega arith)
boolean_value (zero ∷ []) l h = (boolean false, refl, tt)
boolean_value (suc zero ∷ []) l h = (boolean true, refl, tt)
boolean_value (suc (suc n) ∷ []) l h = absurd (omega arith)
boolean_value (x ∷ y ∷ r) l h = absurd (omega arith)

scalar_of : (o : Option ℕ) (n : ℕ) → SomeIff o (IsScalar n) n → is_some o ≡ true → IsScalar n
scalar_of None n h e = absurd (cc)
scalar_of (Some x) n h e = h.0

pub char_value : (b : List ℕ) (n : ℕ) (o : Option ℕ) → n ≡ from_be_bytes w32 b → SomeIff o (IsScalar n) n → is_some o ≡ true
    → IsValue (format 0x73) b
char_value b n o is h e = (char (from_be_bytes w32 b), refl, subst IsScalar is (scalar_of o n h e))

pub string_value : (c : ℕ) (b : List ℕ) → (c ≡ 0xa1) ⊎ (c ≡ 0xb1) → IsUtf8 b → IsValue (format c) b
string_value c b (inl is) h = subst (λ n. IsValue (format n) b) (sym is) (string b, refl, h)
string_value c b (inr is) h = subst (λ n. IsValue (format n) b) (sym is) (string b, refl, h)

pub symbol_value : (c : ℕ) (b : List ℕ) → (c ≡ 0xa3) ⊎ (c ≡ 0xb3) → IsAscii b → IsValue (format c) b
symbol_value c b (inl is) h = subst (λ n. IsValue (format n) b) (sym is) (symbol b, refl, h)
symbol_value c b (inr is) h = subst (λ n. IsValue (format n) b) (sym is) (symbol b, refl, h)
