-- What a type of field says of terms: which of them mean its values, which one is canonical, and the laws of both.
use Rattle.std.specs.Prelude.{◌≡◌, false}
use Rattle.amqp_model.specs.Term.{Term}
use Rattle.amqp_model.specs.Items.{is_null, IsFree}

-- How a value is normalised: not at all, or by a function.
pub data Norm (T : Type 0) : Type 0 where
  unchanged : Norm T
  by_norm : (T → T) → Norm T

abbrev pub normal : {T : Type 0} → Norm T → T → T
normal unchanged v = v
normal (by_norm f) v = f v

pub record Meaning (T : Type 0) : Type 1 where
  -- a value of the type, such as a number in its range
  pub is_value : T → Type 0
  -- the term means the value
  pub means : Term → T → Type 0
  -- the canonical term, in which a refusal stands if the value has none
  pub canon : T → Term
  pub norm : Norm T
  -- the two differ at most in where they lie in memory
  pub same : T → T → Type 0
  -- the laws of sameness
  pub same_refl : (v : T) → same v v
  pub same_sym : (v w : T) → same v w → same w v
  pub same_trans : (v w x : T) → same v w → same w x → same v x
  pub same_value : (v w : T) → same v w → is_value v → is_value w
  pub same_means : (t : Term) (v w : T) → same v w → means t v → means t w
  pub same_canon : (v w : T) → same v w → canon v ≡ canon w
  -- a term means one value at most
  pub one : (t : Term) (v w : T) → means t v → means t w → same v w
  -- the canonical term means the value, normalised
  pub canon_means : (v : T) → is_value v → IsFree (canon v) → means (canon v) (normal norm v)
  -- normalising keeps the canonical term, and once is enough
  pub norm_canon : (v : T) → canon (normal norm v) ≡ canon v
  pub norm_norm : (v : T) → same (normal norm (normal norm v)) (normal norm v)
  -- what is meant is a value, is normal and has a canonical term
  pub value : (t : Term) (v : T) → means t v → is_value v
  pub own : (t : Term) (v : T) → means t v → same (normal norm v) v
  pub free : (t : Term) (v : T) → means t v → IsFree (canon v)

abbrev pub NeverNull : {T : Type 0} → Meaning T → Type 0
NeverNull {T} m = (t : Term) (v : T) → m.means t v → is_null t ≡ false

-- A type whose values no null means.
pub record FieldType (T : Type 0) : Type 1 where
  pub meaning : Meaning T
  pub never_null : NeverNull meaning
