-- What the calls of an encoder do, in a row.
use Rattle.std.specs.Prelude.{◌≡◌, ℕ, false, List, [], ◌∷◌, ◌++◌, Result, Ok, Err, ◌⊎◌}
use Rattle.amqp_model.specs.Text.{Alone}
use Rattle.amqp_wire.specs.declared.error.Error.{Error}
use Rattle.amqp_wire.specs.declared.error.Error.TheVariants.{Memory}
use Rattle.amqp_encoder.specs.Tokens.{Token, put, keep, begin, end, begin_described, end_described, refuse, TakesMemory}
use Rattle.amqp_encoder.specs.State.{Measured, Filled, Pass, Measuring, Filling, Stopped, Encoder}
use Rattle.amqp_encoder.specs.Measuring.{measure_put, measure_keep, measure_begin, measure_end, measure_begin_described}
use Rattle.amqp_encoder.specs.Measuring.{measure_end_described, is_none}
use Rattle.std.specs.Prelude.{length}
use Rattle.amqp_encoder.specs.Filling.{fill_put, fill_keep, fill_begin, fill_begin_described, fill_end}
use Rattle.amqp_encoder.specs.declared.size.Size.{Size}

abbrev pub measure : Token → Measured → Result Measured Error
measure (put p) m = measure_put p m
measure (keep b nesting) m = measure_keep (length b) nesting m
measure (begin k) m = measure_begin k m
measure (end k) m = measure_end k m
measure (begin_described d) m = measure_begin_described d m
measure end_described m = measure_end_described m
measure (refuse e) m = Err e

abbrev pub fill : Token → Filled → Result Filled Error
fill (put p) f = fill_put p f
fill (keep b nesting) f = fill_keep b f
fill (begin k) f = fill_begin k f
fill (end k) f = fill_end f
fill (begin_described d) f = fill_begin_described d f
fill end_described f = fill_end f
fill (refuse e) f = Err e

abbrev pub measuring : Result Measured Error → Pass
measuring (Ok m) = Measuring m
measuring (Err e) = Stopped e

abbrev pub filling : Result Filled Error → Pass
filling (Ok f) = Filling f
filling (Err e) = Stopped e

abbrev pub step : Pass → Token → Pass
step (Measuring m) t = measuring (measure t m)
step (Filling f) t = filling (fill t f)
step (Stopped e) t = Stopped e

unfoldable pub steps : Pass → List Token → Pass
steps s [] = s
steps s (t ∷ ts) = steps (step s t) ts

-- what a call answers that leaves this state
abbrev pub outcome : Pass → Result (Unit {0}) Error
outcome (Measuring m) = Ok tt
outcome (Filling f) = Ok tt
outcome (Stopped e) = Err e

abbrev pub IsGoing : Pass → Type 0
IsGoing s = outcome s ≡ Ok tt

-- Memory may run out at the call: it measures, takes memory and isn't refused. A filling pass takes none.
abbrev pub MayRunOut : Pass → Token → Type 0
MayRunOut (Measuring m) t = TakesMemory m.frame.place t × IsGoing (step (Measuring m) t)
MayRunOut (Filling f) t = ⊥
MayRunOut (Stopped e) t = ⊥

-- The same of one of the calls, behind those before it.
unfoldable pub AnyMayRunOut : Pass → List Token → Type 0
AnyMayRunOut s [] = ⊥
AnyMayRunOut s (t ∷ ts) = MayRunOut s t ⊎ AnyMayRunOut (step s t) ts

abbrev pub RunsOut : Pass → List Token → Pass → Type 0
RunsOut old ts new = AnyMayRunOut old ts × (new ≡ Stopped Memory)

-- The calls were made in this order, up to a refusal; or memory ran out at one that takes memory.
pub record Runs (old : Pass) (ts : List Token) (result : Result (Unit {0}) Error) (new : Pass) : Type 0 where
  pub answer : result ≡ outcome new
  pub state : (new ≡ steps old ts) ⊎ RunsOut old ts new

-- what a pass leaves whose call was answered so
abbrev pub settled : Result (Unit {0}) Error → Pass → Pass
settled (Ok u) s = s
settled (Err e) s = Stopped e

-- The calls of a pass that has refused nothing. What it leaves counts if they were answered Ok.
abbrev pub Passes : Pass → List Token → Result (Unit {0}) Error → Pass → Type 0
Passes old ts result new = Runs old ts result (settled result new)

-- The next value is by itself, and is not the only one of a described value.
abbrev pub IsPlain : Pass → Type 0
IsPlain (Measuring m) = (m.frame.place ≡ Alone) × (is_none m.frame.container ≡ false)
IsPlain (Filling f) = f.place ≡ Alone
IsPlain (Stopped e) = ⊥

abbrev pub pass_of : Encoder → Pass
pass_of e = e.pass

-- it fills
abbrev pub Fills : Pass → Type 0
Fills (Filling f) = Unit {0}
Fills _ = ⊥

-- the buffer's bytes: those that a filling pass has written behind what was there
abbrev pub bytes_in : Pass → List ℕ → List ℕ
bytes_in (Filling f) buffer = f.out
bytes_in s buffer = buffer

abbrev pub bytes_of : Encoder → List ℕ
bytes_of e = bytes_in e.pass e.buffer

-- the name of the loan of the caller's memory that a filling pass writes into
abbrev pub loan_in : Pass → ℕ
loan_in (Filling f) = f.loan
loan_in _ = 0

abbrev pub loan_of : Encoder → ℕ
loan_of e = loan_in e.pass

abbrev pub Follows : List ℕ → List ℕ → Type 0
Follows a b = (rest : List ℕ) × (b ≡ a ++ rest)

-- the same of an encoder, whose buffer keeps what it has
pub record Writes (old : Encoder) (ts : List Token) (result : Result (Unit {0}) Error) (new : Encoder) : Type 0 where
  pub runs : Runs (pass_of old) ts result (pass_of new)
  pub kept : Follows (bytes_of old) (bytes_of new)

-- What a measuring pass found: nothing is open, and this is the length, and these are the sizes.
abbrev pub Found : Pass → ℕ → List Size → Type 0
Found (Measuring m) len sizes = (m.outer ≡ []) × (m.frame.content ≡ len) × (m.sizes ≡ sizes)
Found (Filling f) len sizes = ⊥
Found (Stopped e) len sizes = ⊥
