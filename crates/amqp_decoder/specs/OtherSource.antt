-- The same state before another source, or where values may nest deeper, have more bytes or more may begin; and which errors stay.
use Rattle.std.proofs.Common.{◌≡◌, ◌≤◌, ℕ, Bool, false, cond, map, Option, Some, None, arith}
use Rattle.amqp_wire.specs.declared.error.Error.{Error}
use Rattle.amqp_wire.specs.declared.error.Error.TheVariants.{Depth, Limit}
use Rattle.amqp_decoder.specs.State.{Source, Reader, reader_of, Course, Open, State, bound_of}

-- Another source, which may have failed, a bound on nesting that is no lower, whether as many values may begin as there are, whether
-- they may have as many bytes, and what else is said of how the reading goes.
pub record Setting : Type 0 where
  pub source : Reader
  pub deepen : ℕ → ℕ
  pub grows : (n : ℕ) → n ≤ deepen n
  pub free : Bool
  pub lift : Bool
  pub course : Course → Course

-- How many may begin, unless as many may as there are.
abbrev pub freed : Bool → Option ℕ → Option ℕ
freed free None = None
freed free (Some n) = cond free None (Some n)

-- The bytes that are left, unless as many may be as there are: then those that a size leaves.
abbrev pub lifted : Bool → Open → Open
lifted lift f = record f { left = cond lift (bound_of f) f.left }

abbrev pub under : Setting → State → State
under c st =
    record st {
      source = c.source;
      top = lifted c.lift st.top;
      saved = map (lifted c.lift) st.saved;
      nesting = c.deepen st.nesting;
      quota = freed c.free st.quota;
      failed = c.course st.failed;
    }

-- Another source alone.
abbrev pub another : Source → Bool → Setting
another source failed = record {
  source = reader_of source;
  deepen = λ n. n;
  grows = λ n. omega arith;
  free = false;
  lift = false;
  course = λ f. record f { size = source.size; broken = failed };
}

-- The same before a decoder of another source, which may have failed.
abbrev pub elsewhere : Source → Bool → State → State
elsewhere source failed st =
    record st { source = reader_of source; failed = record st.failed { size = source.size; broken = failed } }

-- An error by depth isn't kept by a greater bound, and one by a limit not where more values may begin or more bytes are left.
abbrev pub IsByDepth : Error → Type 0
IsByDepth Depth = Unit {0}
IsByDepth Limit = Unit {0}
IsByDepth _ = ⊥

abbrev pub KeepsError : Setting → Error → Type 0
KeepsError c e = IsByDepth e → ((n : ℕ) → c.deepen n ≡ n) × (c.free ≡ false) × (c.lift ≡ false)
