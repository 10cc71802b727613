-- What each call does to what is seen of an encoder that fills.
use Rattle.std.specs.Prelude.{ℕ, ◌+◌, List, [], ◌∷◌, ◌++◌, length, ltb, if◌then◌else◌, Result, Ok, Err}
use Rattle.amqp_model.specs.Term.{Primitive, null, binary, string, symbol, Container, list, Descriptor, code}
use Rattle.amqp_model.specs.Spelling.{descriptor_value}
use Rattle.amqp_model.specs.Text.{Place, Alone, First, Later, next, first_place, primitive_text, descriptor_text}
use Rattle.amqp_wire.specs.declared.error.Error.{Error}
use Rattle.amqp_wire.specs.declared.error.Error.TheVariants.{Depth, ZeroWidthItems, TooLarge, InvalidValue, LazyInArray}
use Rattle.amqp_encoder.specs.declared.size.Size.{Size}
use Rattle.amqp_encoder.specs.Opening.{opening}
use Rattle.amqp_encoder.specs.Measuring.{◌>>=◌, short_enough}
use Rattle.amqp_encoder.specs.State.{Filled}

abbrev pub emit : List ℕ → Filled → Result Filled Error
emit bs f = if ltb f.limit (length f.out + length bs) then Err InvalidValue else Ok (record f { out = f.out ++ bs })

abbrev pub fill_value : List ℕ → Filled → Result Filled Error
fill_value bs f = emit bs f >>= λ g. Ok (record g { place = next g.place })

-- a length fits in four bytes
abbrev pub sized : Primitive → Result (Unit {0}) Error
sized (binary s) = short_enough s
sized (string s) = short_enough s
sized (symbol s) = short_enough s
sized p = Ok tt

abbrev pub fill_null_at : Place → Filled → Result Filled Error
fill_null_at Alone f = fill_value (0x40 ∷ []) f
fill_null_at First f = Err ZeroWidthItems
fill_null_at Later f = Err ZeroWidthItems

abbrev pub fill_sized : Primitive → Filled → Result Filled Error
fill_sized null f = fill_null_at f.place f
fill_sized p f = fill_value (primitive_text f.place p) f

abbrev pub fill_put : Primitive → Filled → Result Filled Error
fill_put p f = sized p >>= λ _. fill_sized p f

abbrev pub fill_keep_at : Place → List ℕ → Filled → Result Filled Error
fill_keep_at Alone b f = fill_value b f
fill_keep_at First b f = Err LazyInArray
fill_keep_at Later b f = Err LazyInArray

abbrev pub fill_keep : List ℕ → Filled → Result Filled Error
fill_keep b f = fill_keep_at f.place b f

abbrev pub fill_open : List ℕ → Place → Filled → Result Filled Error
fill_open head inner f =
    if ltb 128 (length f.outer) then Err Depth else (emit head f >>= λ g. Ok (record g { place = inner; outer = g.place ∷ g.outer }))

abbrev pub fill_begin_of : List Size → Container → Filled → Result Filled Error
fill_begin_of [] k f = Err InvalidValue
fill_begin_of (s ∷ ss) k f =
    if ltb 0xffff_fffb s.content then Err TooLarge else fill_open (opening f.place k s.count s.content) (first_place k)
    (record f { sizes = ss })

abbrev pub fill_begin : Container → Filled → Result Filled Error
fill_begin k f = fill_begin_of f.sizes k f

abbrev pub fill_describe_at : Place → Descriptor → Filled → Result Filled Error
fill_describe_at Later d f = fill_open [] Later f
fill_describe_at p d f = sized (descriptor_value d) >>= λ _. fill_open (descriptor_text p d) p f

abbrev pub fill_begin_described : Descriptor → Filled → Result Filled Error
fill_begin_described d f = fill_describe_at f.place d f

abbrev pub fill_end_in : List Place → Filled → Result Filled Error
fill_end_in [] f = Err InvalidValue
fill_end_in (p ∷ ps) f = Ok (record f { place = next p; outer = ps })

abbrev pub fill_end : Filled → Result Filled Error
fill_end f = fill_end_in f.outer f

-- A list that is described by a code begins, where both are by themselves.
abbrev pub open_composite : ℕ → Size → Filled → Result Filled Error
open_composite c s f = emit (descriptor_text Alone (code c) ++ opening Alone list s.count s.content) f
    >>= λ g. Ok (record g { place = Alone; outer = Alone ∷ g.place ∷ g.outer })
