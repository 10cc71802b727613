-- A code that is refused, and data that is no value.
use Rattle.std.proofs.Common.{◌≡◌, ℕ, zero, suc, ◌⊎◌, inl, inr, Bool, true, false, cond, eqb, List, [], ◌∷◌, Option, Some, None, unwrap_or}
use Rattle.std.proofs.Common.{refl, sym, ap, ◌∙◌, subst}
use Rattle.std.proofs.lemmas.Bool.{eqb-true, eq-eqb}
use Rattle.std.specs.Int.{w8, w16, w32, w64, from_be_bytes, cast_signed}
use Rattle.amqp_model.specs.Term.{Primitive, null, boolean, ubyte, ushort, uint, ulong, byte, short, int, long, char, timestamp, decimal32}
use Rattle.amqp_model.specs.Term.{decimal64, decimal128, uuid, binary, string, symbol, Container, list, map, array}
use Rattle.amqp_model.specs.Constructors.{Format, fixed, variable, compound, unknown, format, constructors, boolean_byte}
use Rattle.amqp_model.specs.Spelling.{IsValid, IsKnown}
use Rattle.amqp_model.proofs.Shortest.{AllRows, ◌⨾◌, each_row}
use Rattle.amqp_wire.specs.declared.error.Error.{Error}
use Rattle.amqp_wire.specs.declared.error.Error.TheVariants.{UnknownCode, FloatCode, WrongType}
use Rattle.amqp_wire.specs.Codes.{is_known, refusal_of}
use Rattle.amqp_lookahead.specs.Kinds.{kind_under, kind_at}
use Rattle.amqp_lengths.specs.Pieces.{value_of, IsDescriptorCode}
use Rattle.amqp_lengths.specs.Faults.{ValueFault}
use Rattle.amqp_lengths.specs.Stands.{Piece, a_descriptor, Around, Begins, HasCode, HasUnknown, HasNoValue, IsWrong}
use Rattle.amqp_decoder.specs.Primitives.{bad}
use Rattle.amqp_decoder.specs.Described.{other_kind}

-- by a test of a code
code_test : (Q : Error → Type 0) (c d : ℕ) (t : Bool) (e f : Error) → eqb c d ≡ t → (c ≡ d → Q e) → ((c ≡ d → ⊥) → Q f) → Q (cond t e f)
code_test Q c d true e f is h k = h (eqb-true c d is)
code_test Q c d false e f is h k = k (λ same. let other : true ≡ false = sym (eq-eqb c d same) ∙ is in absurd (cc))

known_case : (Q : Error → Type 0) (F : Format) (e f : Error) → (IsKnown F → Q e) → ((IsKnown F → ⊥) → Q f) → Q (cond (is_known F) e f)
known_case Q unknown e f h k = k (λ x. x)
known_case Q (fixed w v) e f h k = h tt
known_case Q (variable w v) e f h k = h tt
known_case Q (compound kind w) e f h k = h tt

-- A value begins by a code of another kind, or something by one that is unknown.
pub code_wrong : (c : ℕ) (around : Around) (P : Piece) (d : ℕ) (z : List ℕ) → ((c ≡ 0) ⊎ IsKnown (format c) → Begins P × HasCode P z c)
    → ((c ≡ 0 → ⊥) → (IsKnown (format c) → ⊥) → HasUnknown P z c) → IsWrong (refusal_of c) around P d z
code_wrong c around P d z known_so unknown_so =
    let Q : Error → Type 0 = λ e. IsWrong e around P d z in
    code_test Q c 0x72 (eqb c 0x72) (FloatCode c) _ refl
    (λ is. (unknown_so (λ e. cc) (λ k. subst (λ x. IsKnown (format x)) is k), inl is))
    (λ n. code_test Q c 0x82 (eqb c 0x82) (FloatCode c) _ refl
    (λ is. (unknown_so (λ e. cc) (λ k. subst (λ x. IsKnown (format x)) is k), inr is))
    (λ m. code_test Q c 0 (eqb c 0) (WrongType c) _ refl (λ is. known_so (inl is))
    (λ some. known_case Q (format c) (WrongType c) (UnknownCode c) (λ known. known_so (inr known)) (unknown_so some))))

-- A code that begins no descriptor.
pub other_kind_wrong : (c : ℕ) (around : Around) (d : ℕ) (z y : List ℕ) → z ≡ c ∷ y → (IsDescriptorCode c → ⊥)
    → IsWrong (other_kind (refusal_of c)) around a_descriptor d z
other_kind_wrong c around d z y there other =
    let Q : Error → Type 0 = λ e. IsWrong (other_kind e) around a_descriptor d z in
    code_test Q c 0x72 (eqb c 0x72) (FloatCode c) _ refl
    (λ is. (((y, there), (λ e. cc), (λ k. subst (λ x. IsKnown (format x)) is k)), inl is))
    (λ n. code_test Q c 0x82 (eqb c 0x82) (FloatCode c) _ refl
    (λ is. (((y, there), (λ e. cc), (λ k. subst (λ x. IsKnown (format x)) is k)), inr is))
    (λ m. code_test Q c 0 (eqb c 0) (WrongType c) _ refl (λ is. (refl, (c, (y, there), inl is, other)))
    (λ some. known_case Q (format c) (WrongType c) (UnknownCode c) (λ known. (refl, (c, (y, there), inr known, other)))
    (λ unknown_. ((y, there), some, unknown_)))))

-- what each format says of data that is no value
abbrev IsBad : Format → Type 0
IsBad F = (k : ℕ) (content : List ℕ) → kind_under F ≡ Some k → ((p : Primitive) → value_of F content ≡ Some p → IsValid p → ⊥)
    → ValueFault (value_of F content) (bad k)

kind_same : (j k : ℕ) → Some j ≡ Some k → bad k ≡ bad j
kind_same j k e = sym (ap (λ o. bad (unwrap_or o 0)) e)

of_width : (w : ℕ) (make : List ℕ → Primitive) → ((b : List ℕ) → IsValid (make b)) → IsBad (fixed w (λ b. Some (make b)))
of_width w make valid k b e none = absurd (none (make b) refl (valid b))

of_size : (w : ℕ) (make : List ℕ → Primitive) → ((b : List ℕ) → IsValid (make b)) → IsBad (variable w (λ b. Some (make b)))
of_size w make valid k b e none = absurd (none (make b) refl (valid b))

holding : (kind : Container) (w : ℕ) → IsBad (compound kind w)
holding kind w k b e none = absurd (cc)

no_format : IsBad unknown
no_format k b e none = absurd (cc)

boolean_row : IsBad (fixed 1 boolean_byte)
boolean_row k (zero ∷ []) e none = absurd (none _ refl tt)
boolean_row k (suc zero ∷ []) e none = absurd (none _ refl tt)
boolean_row k [] e none = kind_same 1 k e
boolean_row k (suc (suc n) ∷ []) e none = kind_same 1 k e
boolean_row k (zero ∷ y ∷ r) e none = kind_same 1 k e
boolean_row k (suc zero ∷ y ∷ r) e none = kind_same 1 k e
boolean_row k (suc (suc n) ∷ y ∷ r) e none = kind_same 1 k e

char_row : IsBad (fixed 4 (λ b. Some (char (from_be_bytes w32 b))))
char_row k b e none = ((λ s. none _ refl s), kind_same 13 k e)

string_row : (w : ℕ) → IsBad (variable w (λ b. Some (string b)))
string_row w k b e none = ((λ s. none _ refl s), kind_same 17 k e)

symbol_row : (w : ℕ) → IsBad (variable w (λ b. Some (symbol b)))
symbol_row w k b e none = ((λ s. none _ refl s), kind_same 18 k e)

all_bad : AllRows IsBad constructors
unfolding AllRows
all_bad =
    of_width 0 (λ b. null) (λ b. tt)
    ⨾ of_width 0 (λ b. boolean true) (λ b. tt)
    ⨾ of_width 0 (λ b. boolean false) (λ b. tt)
    ⨾ of_width 0 (λ b. uint 0) (λ b. tt)
    ⨾ of_width 0 (λ b. ulong 0) (λ b. tt)
    ⨾ holding list 0
    ⨾ of_width 1 (λ b. ubyte (from_be_bytes w8 b)) (λ b. tt)
    ⨾ of_width 1 (λ b. byte (cast_signed w8 (from_be_bytes w8 b))) (λ b. tt)
    ⨾ of_width 1 (λ b. uint (from_be_bytes w8 b)) (λ b. tt)
    ⨾ of_width 1 (λ b. ulong (from_be_bytes w8 b)) (λ b. tt)
    ⨾ of_width 1 (λ b. int (cast_signed w8 (from_be_bytes w8 b))) (λ b. tt)
    ⨾ of_width 1 (λ b. long (cast_signed w8 (from_be_bytes w8 b))) (λ b. tt)
    ⨾ boolean_row
    ⨾ of_width 2 (λ b. ushort (from_be_bytes w16 b)) (λ b. tt)
    ⨾ of_width 2 (λ b. short (cast_signed w16 (from_be_bytes w16 b))) (λ b. tt)
    ⨾ of_width 4 (λ b. uint (from_be_bytes w32 b)) (λ b. tt)
    ⨾ of_width 4 (λ b. int (cast_signed w32 (from_be_bytes w32 b))) (λ b. tt)
    ⨾ char_row
    ⨾ of_width 4 (λ b. decimal32 b) (λ b. tt)
    ⨾ of_width 8 (λ b. ulong (from_be_bytes w64 b)) (λ b. tt)
    ⨾ of_width 8 (λ b. long (cast_signed w64 (from_be_bytes w64 b))) (λ b. tt)
    ⨾ of_width 8 (λ b. timestamp (cast_signed w64 (from_be_bytes w64 b))) (λ b. tt)
    ⨾ of_width 8 (λ b. decimal64 b) (λ b. tt)
    ⨾ of_width 16 (λ b. decimal128 b) (λ b. tt)
    ⨾ of_width 16 (λ b. uuid b) (λ b. tt)
    ⨾ of_size 1 (λ b. binary b) (λ b. tt)
    ⨾ string_row 1
    ⨾ symbol_row 1
    ⨾ of_size 4 (λ b. binary b) (λ b. tt)
    ⨾ string_row 4
    ⨾ symbol_row 4
    ⨾ holding list 1
    ⨾ holding map 1
    ⨾ holding list 4
    ⨾ holding map 4
    ⨾ holding array 1
    ⨾ holding array 4
    ⨾ no_format

pub bad_at : (c k : ℕ) (content : List ℕ) → kind_at c ≡ Some k → ((p : Primitive) → value_of (format c) content ≡ Some p → IsValid p → ⊥)
    → ValueFault (value_of (format c) content) (bad k)
unfolding kind_at
bad_at c k content e none = each_row IsBad constructors all_bad c k content e none

pub value_wrong : (o : Option Primitive) (e : Error) (around : Around) (P : Piece) (d : ℕ) (z : List ℕ) → ValueFault o e → HasNoValue e P z
    → IsWrong e around P d z
value_wrong None e around P d z is h = subst (λ x. HasNoValue x P z → IsWrong x around P d z) (sym is) (λ k. k) h
value_wrong (Some (char n)) e around P d z (bad, is) h = subst (λ x. HasNoValue x P z → IsWrong x around P d z) (sym is) (λ k. k) h
value_wrong (Some (string s)) e around P d z (bad, is) h = subst (λ x. HasNoValue x P z → IsWrong x around P d z) (sym is) (λ k. k) h
value_wrong (Some (symbol s)) e around P d z (bad, is) h = subst (λ x. HasNoValue x P z → IsWrong x around P d z) (sym is) (λ k. k) h
value_wrong (Some p) e around P d z bad h = absurd bad
