-- What a call of one pass did, and the bytes and lengths that its parts speak of.
use Rattle.std.specs.Prelude.{◌≡◌, ◌<◌, ℕ, ◌+◌, List, [], ◌∷◌, length, drop, ltb, cond, if◌then◌else◌, Result, Ok, Err, IsOk, ◌⊎◌}
use Rattle.amqp_model.specs.Term.{Container, Descriptor, name, code, symbol}
use Rattle.amqp_model.specs.Spelling.{descriptor_value}
use Rattle.amqp_model.specs.Text.{Place, Alone, First, Later, spell, with_size}
use Rattle.amqp_wire.specs.declared.error.Error.{Error}
use Rattle.amqp_wire.specs.declared.error.Error.TheVariants.{Memory, TooLarge, InvalidValue}
use Rattle.amqp_encoder.specs.declared.places.Shortest.{Shortest}
use Rattle.amqp_encoder.specs.declared.size.Size.{Size}
use Rattle.amqp_encoder.specs.declared.frame.MeasuredContainer.{MeasuredContainer}
use Rattle.amqp_encoder.specs.Values.{shortest_text}
use Rattle.amqp_encoder.specs.State.{Open, Measured, Filled, seen}
use Rattle.amqp_encoder.specs.Measuring.{◌>>=◌, short_enough, checked, measure_value, descriptor_bytes, end_in, leave_in}
use Rattle.amqp_encoder.specs.Filling.{sized, fill_value, fill_open}

-- What its function says; or memory ran out where the call takes memory, and that says Ok.
abbrev pub Gives : {X : Type 0} → Type 0 → Result X Error → Result (Unit {0}) Error → X → Type 0
Gives takes r (Ok u) new = r ≡ Ok new
Gives takes r (Err e) new = (r ≡ Err e) ⊎ ((e ≡ Memory) × takes × IsOk r)

-- The same of a call that takes no memory.
abbrev pub Does : {X : Type 0} → Result X Error → Result (Unit {0}) Error → X → Type 0
Does r (Ok u) new = r ≡ Ok new
Does r (Err e) new = r ≡ Err e

-- A primitive of fixed width, whose code and data in an array are w.
abbrev pub fixed_text : Place → Shortest → List ℕ → List ℕ
fixed_text Alone s w = shortest_text s w
fixed_text First s w = w
fixed_text Later s w = drop 1 w

-- Bytes behind their length, which has one byte or four.
abbrev pub variable_text : Place → ℕ → ℕ → List ℕ → List ℕ
variable_text Alone short wide s = spell (cond (ltb (length s) 256) (short, with_size 1 s) (wide, with_size 4 s))
variable_text First short wide s = spell (wide, with_size 4 s)
variable_text Later short wide s = with_size 4 s

abbrev pub fill_bytes : ℕ → ℕ → List ℕ → Filled → Result Filled Error
fill_bytes short wide s f = short_enough s >>= λ _. fill_value (variable_text f.place short wide s) f

-- A described value begins where its descriptor is written.
abbrev pub fill_described : Descriptor → Filled → Result Filled Error
fill_described d f = sized (descriptor_value d) >>= λ _. fill_open (descriptor_bytes d) f.place f

abbrev pub variable_length : Place → ℕ → ℕ
variable_length Alone n = if ltb n 256 then 2 + n else 5 + n
variable_length First n = 5 + n
variable_length Later n = 4 + n

abbrev pub measure_bytes : ℕ → ℕ → Measured → Result Measured Error
measure_bytes c n m = if ltb 0xffff_ffff n then Err TooLarge else measure_value c (variable_length m.frame.place n) m

abbrev pub measure_symbol : ℕ → List ℕ → Measured → Result Measured Error
measure_symbol c s m = checked (symbol s) >>= λ _. measure_value c (variable_length m.frame.place (length s)) m

-- the text at the end of a descriptor
abbrev pub tail_of : Descriptor → List ℕ
tail_of (name s) = s
tail_of (code n) = []

-- The container around is open again.
abbrev pub Closes : Measured → List Open → Result MeasuredContainer Error → Measured → Type 0
Closes old [] r new = r ≡ Err InvalidValue
Closes old (f ∷ fs) (Ok inner) new =
    (seen inner ≡ old.frame) × (new ≡ record { frame = f; outer = fs; sizes = old.sizes; descriptors = old.descriptors })
Closes old (f ∷ fs) (Err e) new = ⊥
