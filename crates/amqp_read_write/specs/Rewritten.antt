-- What is written again after it was read.
use Rattle.std.specs.Prelude.{◌≡◌, ℕ, ◌≤◌, List, ◌++◌, length}
use Rattle.amqp_model.specs.Term.{Term}
use Rattle.amqp_model.specs.Ranges.{IsBytes}
use Rattle.amqp_wire.specs.declared.error.Error.{Error}
use Rattle.amqp_wire.specs.declared.error.Error.TheVariants.{TooLarge}
use Rattle.amqp_wire.specs.declared.limits.Limits.{Limits}
use Rattle.amqp_encoder.specs.Passes.{row_text}
use Rattle.amqp_codec.specs.Reading.{Reading, BeginsWith, BeginsWithin, greatest}
use Rattle.amqp_codec.specs.Rewriting.{HoldNoArray}
use Rattle.amqp_codec.specs.Written.{AreWritable, AreUnwritable}

-- The bytes are the canonical text of the one value that the first n bytes of the input are read as, within the limits.
pub record IsRewrittenWithin {T : Type 0} (limits : Limits) (r : Reading T) (canons : T → List Term) (input text : List ℕ) (n : ℕ)
    : Type 0 where
  pub value : T
  pub read : BeginsWithin limits r input value n
  pub one : (w : T) (m : ℕ) → BeginsWithin limits r input w m → r.same value w
  pub bounded : r.count value ≤ n
  pub writable : AreWritable (canons value)
  pub text_is : text ≡ row_text (canons value)

-- The bytes are the canonical text of the one value that the first n bytes of the input are read as.
abbrev pub IsRewritten : {T : Type 0} → Reading T → (T → List Term) → List ℕ → List ℕ → ℕ → Type 0
IsRewritten r canons input text n = IsRewrittenWithin greatest r canons input text n

-- Before whatever may follow, the text is read to its end, as the value that the first n bytes of the input are read as, if that lasts.
pub record IsReadAgain {T : Type 0} (r : Reading T) (follows : List ℕ → Type 0) (again : T → T) (kept lasts : T → Type 0)
    (input text : List ℕ) (n : ℕ) : Type 0 where
  pub read : (v : T) (more : List ℕ) → BeginsWith r input v n → lasts v → follows more
      → BeginsWith r (text ++ more) (again v) (length text)
  pub itself : (v : T) → BeginsWith r input v n → kept v → r.same (again v) v

-- It is the canonical text of that value however any input spells it.
abbrev pub IsOneText : {T : Type 0} → Reading T → (T → List Term) → List ℕ → List ℕ → ℕ → Type 0
IsOneText {T} r canons input text n = (v w : T) (other : List ℕ) (m : ℕ) → BeginsWith r input v n → BeginsWith r other w m → r.same v w
    → row_text (canons w) ≡ text

-- It is the canonical text of no other value that lasts.
abbrev pub IsOfNoOther : {T : Type 0} → Reading T → (T → List Term) → (T → Type 0) → (T → Type 0) → List ℕ → List ℕ → ℕ → Type 0
IsOfNoOther {T} r canons kept lasts input text n =
    (v w : T) (other : List ℕ) (m : ℕ) → BeginsWith r input v n → BeginsWith r other w m → kept v → kept w → lasts v → lasts w
    → AreWritable (canons w) → row_text (canons w) ≡ text → r.same v w

-- If that value lasts, what the text is read as has it as its canonical text.
abbrev pub IsUnchanged : {T : Type 0} → Reading T → (T → List Term) → (T → Type 0) → List ℕ → List ℕ → ℕ → Type 0
IsUnchanged {T} r canons lasts input text n =
    (v w : T) (m : ℕ) → BeginsWith r input v n → lasts v → BeginsWith r text w m → (row_text (canons w) ≡ text) × (m ≡ length text)

-- No spelling of that value is shorter, where no array stands in its canonical terms.
abbrev pub IsShortest : {T : Type 0} → Reading T → (T → List Term) → List ℕ → List ℕ → ℕ → Type 0
IsShortest {T} r canons input text n =
    (v w : T) (other : List ℕ) (m : ℕ) → BeginsWith r input v n → BeginsWith r other w m → r.same v w → IsBytes other
    → HoldNoArray (canons w) → length text ≤ m

-- No spelling of a value is shorter than its canonical text, where no array stands in its canonical terms.
abbrev pub AreShortest : {T : Type 0} → Reading T → (T → List Term) → Type 0
AreShortest {T} r canons = (v : T) (input : List ℕ) (n : ℕ) → BeginsWith r input v n → IsBytes input → HoldNoArray (canons v)
    → length (row_text (canons v)) ≤ n

-- The canonical text of every value that can be written is read to its end, before whatever may follow, as what the text of
-- that value is read as; and this has the same canonical text.
pub record AreReadAgain {T : Type 0} (r : Reading T) (canons : T → List Term) (is_value : T → Type 0) (follows : List ℕ → Type 0)
    (again : T → T) (lasts : T → Type 0) : Type 0 where
  pub read : (v : T) (more : List ℕ) → is_value v → lasts v → AreWritable (canons v) → follows more
      → BeginsWith r (row_text (canons v) ++ more) (again v) (length (row_text (canons v)))
  pub text : (v : T) → is_value v → AreWritable (canons v) → row_text (canons (again v)) ≡ row_text (canons v)

-- What the input is read as within the limits is too large to be written.
pub record IsUnwrittenWithin {T : Type 0} (limits : Limits) (r : Reading T) (canons : T → List Term) (input : List ℕ) (e : Error)
    : Type 0 where
  pub value : T
  pub length : ℕ
  pub read : BeginsWithin limits r input value length
  pub unwritable : AreUnwritable (canons value) e
  pub large : e ≡ TooLarge

-- What the input is read as is too large to be written.
abbrev pub IsUnwritten : {T : Type 0} → Reading T → (T → List Term) → List ℕ → Error → Type 0
IsUnwritten r canons input e = IsUnwrittenWithin greatest r canons input e
