-- A sum of primitive types is one list of its members, which their kinds tell (Part 1, section 1.6).
use Rattle.std.proofs.Common.{◌≡◌, ℕ, zero, suc, Bool, false}
use Rattle.amqp_model.specs.Term.{Primitive, Term, leaf}
use Rattle.amqp_model.specs.Standing.{Standing}
use Rattle.amqp_model.specs.Ranges.{IsInRange}
use Rattle.amqp_model.specs.Items.{is_null_primitive}
use Rattle.amqp_decoder.specs.State.{State}
use Rattle.amqp_codec.specs.Faults.{Faults, no_faults}
use Rattle.amqp_codec.specs.TermType.{TermType}
use Rattle.amqp_kinds.specs.declared.kind.Kind.{Kind}
use Rattle.amqp_kinds.specs.KindReading.{ReadsMember}
use Rattle.amqp_kinds.specs.Kinds.{term_kind}

-- A primitive type: its kind, and which primitive a value is. A value's term is the primitive, in its range.
pub record PrimitiveMember (M : Type 0) : Type 1 where
  pub kind : Kind
  pub primitive : M → Primitive
  pub type : TermType M
  pub to : (s : Standing) (t : Term) (x : M) → type.means s t x → (t ≡ leaf (primitive x)) × IsInRange (primitive x)
  pub from : (s : Standing) (t : Term) (x : M) → (t ≡ leaf (primitive x)) × IsInRange (primitive x) → type.means s t x

-- The members of V in their order: their types, and the constructors of V that hold them.
pub data KindMembers (V : Type 0) : Type 1 where
  no_more : KindMembers V
  member : {M : Type 0} → PrimitiveMember M → (M → V) → KindMembers V → KindMembers V

-- The member at the place holds the value.
abbrev pub IsAt : {V : Type 0} → KindMembers V → ℕ → V → Type 0
IsAt no_more i v = ⊥
IsAt (member {M} m make ms) zero v = (x : M) × (v ≡ make x)
IsAt (member m make ms) (suc i) v = IsAt ms i v

-- What a constructor makes is the primitive of what it holds.
abbrev pub AreMade : {V : Type 0} → KindMembers V → (V → Primitive) → Type 0
AreMade no_more primitive = Unit {0}
AreMade (member {M} m make ms) primitive = ((x : M) → primitive (make x) ≡ m.primitive x) × AreMade ms primitive

-- How the member of a place is read, why it isn't, and whether that takes memory.
abbrev pub reads_at : {V : Type 0} → KindMembers V → ℕ → State → V → State → Type 0
reads_at no_more i st v b = ⊥
reads_at (member m make ms) zero st v b = ReadsMember m.type.means (λ x v. v ≡ make x) st v b
reads_at (member m make ms) (suc i) st v b = reads_at ms i st v b

abbrev pub faults_at : {V : Type 0} → KindMembers V → ℕ → Faults
faults_at no_more i = no_faults
faults_at (member m make ms) zero = m.type.faults
faults_at (member m make ms) (suc i) = faults_at ms i

abbrev pub takes_at : {V : Type 0} → KindMembers V → ℕ → Bool
takes_at no_more i = false
takes_at (member m make ms) zero = m.type.takes_memory
takes_at (member m make ms) (suc i) = takes_at ms i

-- A sum of primitive types: which primitive a value is, its members, and the place of the member of a kind.
pub record KindSumOf (V : Type 0) : Type 1 where
  pub primitive : V → Primitive
  pub members : KindMembers V
  pub place : Kind → ℕ
  -- by computing
  pub made : AreMade members primitive
  pub held : (v : V) → IsAt members (place (term_kind (leaf (primitive v)))) v
  pub not_null : (v : V) → is_null_primitive (primitive v) ≡ false
