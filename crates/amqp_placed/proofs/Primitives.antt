-- A fault of a primitive is shown by bytes (Part 1, section 1.6).
use Rattle.std.proofs.Common.{◌≡◌, ℕ, inl, inr, Some, None, List}
use Rattle.std.proofs.Common.{refl, subst}
use Rattle.std.specs.Int.{bytes_high_first}
use Rattle.amqp_model.specs.Term.{Primitive}
use Rattle.amqp_model.specs.Constructors.{Format, fixed, variable, compound, unknown, format}
use Rattle.amqp_model.specs.Spelling.{PrimitiveData, IsValid}
use Rattle.amqp_wire.specs.declared.error.Error.{Error}
use Rattle.amqp_wire.specs.Codes.{refusal_of}
use Rattle.amqp_lookahead.specs.Kinds.{kind_at}
use Rattle.amqp_lengths.specs.Fronts.{Behind}
use Rattle.amqp_lengths.specs.Pieces.{value_of, HoldsBytes}
use Rattle.amqp_lengths.specs.Announced.{Wants}
use Rattle.amqp_lengths.specs.Stands.{Piece, Around, IsUnder, IsWanting, IsWrong}
use Rattle.amqp_decoder.specs.State.{State, bound_of}
use Rattle.amqp_decoder.specs.Steps.{Takes}
use Rattle.amqp_decoder.specs.Primitives.{LacksData, IsWhole, bad, PrimitiveFault, not_begun, wrong_code, no_data, bad_data}
use Rattle.amqp_decoder.specs.Places.{Located, Here}
use Rattle.amqp_placed.specs.Facing.{bytes_open, IsAround, Faces, IsShown}
use Rattle.amqp_placed.proofs.Past.{past_code, past_taken, past_bytes, past_around, past_unlimited}
use Rattle.amqp_placed.proofs.Codes.{bad_at, value_wrong}
use Rattle.amqp_placed.proofs.Here.{wrong_as, here_shows, lacks_wrong, code_taken, begin_wrong, other_code_wrong}

none_at_zero : (k : ℕ) → kind_at 0 ≡ Some k → ⊥
unfolding kind_at
none_at_zero k e = cc

kind_some : (c k : ℕ) → kind_at c ≡ Some k → c ≡ 0 → ⊥
kind_some c k is zero_ = none_at_zero k (subst (λ x. kind_at x ≡ Some k) zero_ is)

-- its data isn't all there
pub data_wrong : (F : Format) (around : Around) (P : Piece) (d : ℕ) (z : List ℕ) (m : State) (e : Error) → IsAround around m
    → (bound_of m.top ≡ None → m.top.left ≡ None) → (Wants F (bytes_open m) → IsWanting P z) → LacksData F m e → IsWrong e around P d z
data_wrong (fixed w v) around P d z m e h unlimited wants lacks = lacks_wrong around P d z w m e h unlimited wants lacks
data_wrong (variable w v) around P d z m e h unlimited wants (inl lacks) =
    lacks_wrong around P d z w m e h unlimited (λ few. wants (inl few)) lacks
data_wrong (variable w v) around P d z m e h unlimited wants (inr (n, after, fits, took, lacks)) =
    let past = past_taken m (bytes_high_first w n) after took in
    lacks_wrong around P d z n after e (past_around past around h) (past_unlimited past unlimited)
    (λ few. wants (inr (n, bytes_open after, fits, past_bytes past, few))) lacks
data_wrong (compound kind w) around P d z m e h unlimited wants lacks = absurd lacks
data_wrong unknown around P d z m e h unlimited wants lacks = absurd lacks

-- its data is there
record Held (F : Format) (b : List ℕ) : Type 0 where
  content : List ℕ
  holds : HoldsBytes F content b
  data_ : (p : Primitive) → value_of F content ≡ Some p → IsValid p → PrimitiveData F p b

held : (F : Format) (b : List ℕ) → IsWhole F b → Held F b
held (fixed w v) b h = record { content = b; holds = (h, refl); data_ = λ p is ok. (h, is, ok) }
held (variable w v) b (content, fits, is) = record { content = content; holds = (fits, is); data_ = λ p e ok. (content, fits, is, e, ok) }
held (compound kind w) b h = absurd h
held unknown b h = absurd h

-- its data is no value
pub no_value_wrong : (c k : ℕ) (around : Around) (P : Piece) (d : ℕ) (z b : List ℕ) (m m' : State) → kind_at c ≡ Some k
    → IsUnder P z c (bytes_open m) → Takes m b m' → IsWhole (format c) b → ((p : Primitive) → PrimitiveData (format c) p b → ⊥)
    → IsWrong (bad k) around P d z
no_value_wrong c k around P d z b m m' kind under took whole none =
    let x = held (format c) b whole in
    let is_bad = bad_at c k x.content kind (λ p v ok. none p (x.data_ p v ok)) in
    let behind : Behind (HoldsBytes (format c) x.content) (bytes_open m) (bytes_open m') =
    record { front = b; is = past_bytes (past_taken m b m' took); spelled = x.holds } in
    value_wrong (value_of (format c) x.content) (bad k) around P d z is_bad
    (c, bytes_open m, x.content, bytes_open m', under, behind, is_bad)

pub primitive_wrong : (k : ℕ) (st : State) (e : Error) (P : Piece) (d : ℕ) (around : Around) → Faces st P d around → PrimitiveFault k st e
    → IsWrong e around P d (bytes_open st)
primitive_wrong k st e P d around h (not_begun fault) = begin_wrong st e P d around h fault
primitive_wrong k st e P d around h (wrong_code {c} {m} code other is) = wrong_as e (refusal_of c) around P d (bytes_open st) is
    (other_code_wrong st c m P d around h code)
primitive_wrong k st e P d around h (no_data {c} {m} code kind lacks) =
    let past = past_code st c m code in
    data_wrong (format c) around P d (bytes_open st) m e (past_around past around h.is_around) (past_unlimited past h.unlimited)
    ((code_taken st c m P code h.next).wants (kind_some c k kind)) lacks
primitive_wrong k st e P d around h (bad_data {c} {m} {b} {m'} code kind took whole none is) =
    wrong_as e (bad k) around P d (bytes_open st) is (no_value_wrong c k around P d (bytes_open st) b m m' kind
    ((code_taken st c m P code h.next).under (kind_some c k kind)) took whole none)

pub primitive_shown : (k : ℕ) (st : State) (f : Located) → Here (PrimitiveFault k) st f → IsShown st f
primitive_shown k st f (fault, is) P d around h = here_shows st f P d around is
    (primitive_wrong k st f.error P d around h fault)
