-- What each call does to what is seen of an encoder that measures.
use Rattle.std.specs.Prelude.{◌≡◌, ℕ, ◌+◌, ◌-◌, ◌%◌, Bool, true, false, ◌&&◌, ◌||◌, not, List, [], ◌∷◌, ◌++◌, length, set, take, drop, ltb, eqb}
use Rattle.std.specs.Prelude.{nat_eq, if◌then◌else◌, Option, Some, None, Result, Ok, Err}
use Rattle.std.specs.Char.{is_ascii}
use Rattle.std.specs.Cmp.Lexicographic.{pointwise}
use Rattle.amqp_model.specs.Term.{Primitive, null, binary, string, symbol, Container, list, map, array, Descriptor}
use Rattle.amqp_model.specs.Spelling.{descriptor_value}
use Rattle.amqp_model.specs.Text.{Place, Alone, First, Later, next, wide, wide_code, primitive_text, descriptor_text}
use Rattle.amqp_wire.specs.declared.error.Error.{Error}
use Rattle.amqp_wire.specs.declared.error.Error.TheVariants.{OddCount, Depth, ZeroWidthItems, NonAscii, MixedArray, TooLarge, InvalidValue}
use Rattle.amqp_wire.specs.declared.error.Error.TheVariants.{LazyInArray}
use Rattle.amqp_encoder.specs.declared.size.Size.{Size}
use Rattle.amqp_encoder.specs.Opening.{opening}
use Rattle.amqp_encoder.specs.State.{Open, Measured, holding, describing}

infixl 10 ◌>>=◌
abbrev pub ◌>>=◌ : {A B : Type 0} → Result A Error → (A → Result B Error) → Result B Error
(Ok x) >>= f = f x
(Err e) >>= f = Err e

abbrev pub MAX : ℕ
MAX = 0xffff_ffff_ffff_ffff

abbrev pub is_none : {X : Type 0} → Option X → Bool
is_none None = true
is_none (Some x) = false

-- a described value that has its value
abbrev pub is_full : Open → Bool
is_full o = is_none o.container && not (eqb o.count 0)

-- a described value by itself that has no value yet
abbrev pub IsUnfilled : Open → Type 0
IsUnfilled o = (o.container ≡ None) × (o.place ≡ Alone) × (o.count ≡ 0)

-- the items of an array share one constructor, of which this code is the end
abbrev pub take_form : Place → ℕ → Measured → Result Measured Error
take_form Alone code m = Ok m
take_form First code m = Ok (record m { frame = record m.frame { code = code } })
take_form Later code m = if eqb m.frame.code code && eqb m.frame.form (length m.descriptors) then Ok m else Err MixedArray

-- a value begins
abbrev pub enter : ℕ → Measured → Result Measured Error
enter code m = if is_full m.frame then Err InvalidValue else take_form m.frame.place code m

-- a value of n bytes ends
abbrev pub leave : ℕ → Measured → Result Measured Error
leave n m = if ltb MAX (m.frame.content + n) || ltb MAX (m.frame.count + 1) then Err TooLarge
    else Ok (record m { frame = record m.frame { content = m.frame.content + n; count = m.frame.count + 1; place = next m.frame.place } })

-- Values that are by themselves, k of them, and take n bytes in all.
abbrev pub counted : ℕ → ℕ → Measured → Measured
counted n k m = record m { frame = record m.frame { content = m.frame.content + n; count = m.frame.count + k } }

abbrev pub all_ascii : List ℕ → Bool
all_ascii [] = true
all_ascii (c ∷ cs) = is_ascii c && all_ascii cs

abbrev pub short_enough : List ℕ → Result (Unit {0}) Error
short_enough s = if ltb 0xffff_ffff (length s) then Err TooLarge else Ok tt

-- Part 1, sections 1.2.2 and 1.6.21: a length fits in four bytes, and a symbol is ASCII.
abbrev pub checked : Primitive → Result (Unit {0}) Error
checked (symbol s) = if all_ascii s then short_enough s else Err NonAscii
checked (binary s) = short_enough s
checked (string s) = short_enough s
checked p = Ok tt

abbrev pub measure_value : ℕ → ℕ → Measured → Result Measured Error
measure_value code len m = enter code m >>= leave len

abbrev pub measure_null_at : Place → Measured → Result Measured Error
measure_null_at Alone m = measure_value 0x40 1 m
measure_null_at First m = Err ZeroWidthItems
measure_null_at Later m = Err ZeroWidthItems

abbrev pub measure_checked : Primitive → Measured → Result Measured Error
measure_checked null m = measure_null_at m.frame.place m
measure_checked p m = measure_value (wide p).0 (length (primitive_text m.frame.place p)) m

abbrev pub measure_put : Primitive → Measured → Result Measured Error
measure_put p m = checked p >>= λ _. measure_checked p m

abbrev pub measure_keep_at : Place → ℕ → ℕ → Measured → Result Measured Error
measure_keep_at Alone len nesting m = if ltb 128 nesting || ltb (128 - nesting) (length m.outer) then Err Depth else measure_value 0 len m
measure_keep_at First len nesting m = Err LazyInArray
measure_keep_at Later len nesting m = Err LazyInArray

abbrev pub measure_keep : ℕ → ℕ → Measured → Result Measured Error
measure_keep len nesting m = measure_keep_at m.frame.place len nesting m

-- How many may be open around it. An array counts in nesting once an item does, so it may stand one deeper.
abbrev pub around : Container → ℕ
around list = 127
around map = 127
around array = 128

abbrev pub no_size : Size
no_size = record { content = 0; count = 0 }

abbrev pub opened : Container → Measured → Measured
opened k m = record {
  frame = holding k (length m.sizes) (length m.descriptors);
  outer = m.frame ∷ m.outer;
  sizes = m.sizes ++ no_size ∷ [];
  descriptors = m.descriptors;
}

abbrev pub measure_begin : Container → Measured → Result Measured Error
measure_begin k m = if ltb (around k) (length m.outer) then Err Depth else (enter (wide_code k) m >>= λ n. Ok (opened k n))

abbrev pub tag : Container → ℕ
tag list = 0
tag map = 1
tag array = 2

abbrev pub holds : Option Container → Container → Bool
holds None k = false
holds (Some l) k = eqb (tag l) (tag k)

abbrev pub is_odd_map : Container → ℕ → Bool
is_odd_map map n = not (eqb (n % 2) 0)
is_odd_map _ n = false

abbrev pub size_of : Open → Result Size Error
size_of o = if ltb 0xffff_fffb o.content || ltb 0xffff_ffff o.count then Err TooLarge else Ok
    (record { content = o.content; count = o.count })

-- A container of this content and size ends in what is around it.
abbrev pub leave_in : Container → Measured → ℕ → ℕ → ℕ → Size → Result Measured Error
leave_in k m index form content s = leave (length (opening m.frame.place k s.count s.content) + content)
    (record { frame = m.frame; outer = m.outer; sizes = set m.sizes index s; descriptors = take form m.descriptors })

abbrev pub closed : Container → Measured → Open → List Open → Size → Result Measured Error
closed k m f fs s = leave (length (opening f.place k m.frame.count m.frame.content) + m.frame.content)
    (record { frame = f; outer = fs; sizes = set m.sizes m.frame.index s; descriptors = take m.frame.form m.descriptors })

abbrev pub end_in : List Open → Container → Measured → Result Measured Error
end_in [] k m = Err InvalidValue
end_in (f ∷ fs) k m =
    if not (holds m.frame.container k) || not (ltb m.frame.index (length m.sizes)) then Err InvalidValue
    else (if is_odd_map k m.frame.count then Err OddCount else (size_of m.frame >>= closed k m f fs))

abbrev pub measure_end : Container → Measured → Result Measured Error
measure_end k m = end_in m.outer k m

-- the bytes of a descriptor in a constructor
abbrev pub descriptor_bytes : Descriptor → List ℕ
descriptor_bytes d = descriptor_text Alone d

abbrev pub descriptor_length : Descriptor → Result ℕ Error
descriptor_length d = checked (descriptor_value d) >>= λ _. Ok (length (descriptor_bytes d))

abbrev pub describe : Measured → ℕ → ℕ → List ℕ → Measured
describe m content form descriptors =
    record { frame = describing m.frame content form; outer = m.frame ∷ m.outer; sizes = m.sizes; descriptors = descriptors }

abbrev pub goes_on : List ℕ → ℕ → List ℕ → Bool
goes_on bytes form descriptors = pointwise nat_eq (take (length bytes) (drop form descriptors)) bytes

abbrev pub form_after : List ℕ → Measured → Result ℕ Error
form_after bytes m = if goes_on bytes m.frame.form m.descriptors then Ok (m.frame.form + length bytes) else Err MixedArray

abbrev pub describe_at : Place → List ℕ → Measured → Result Measured Error
describe_at Alone bytes m = Ok (describe m (length bytes) 0 m.descriptors)
describe_at First bytes m = Ok (describe m (length bytes) (length (m.descriptors ++ bytes)) (m.descriptors ++ bytes))
describe_at Later bytes m = form_after bytes m >>= λ form. Ok (describe m 0 form m.descriptors)

abbrev pub measure_begin_described : Descriptor → Measured → Result Measured Error
measure_begin_described d m =
    if ltb 127 (length m.outer) then Err Depth
    else (if is_full m.frame then Err InvalidValue
    else (checked (descriptor_value d) >>= λ _. describe_at m.frame.place (descriptor_bytes d) m))

abbrev pub end_described_in : List Open → Measured → Result Measured Error
end_described_in [] m = Err InvalidValue
end_described_in (f ∷ fs) m =
    if is_none m.frame.container && eqb m.frame.count 1
    then leave m.frame.content
    (record { frame = record f { code = m.frame.code }; outer = fs; sizes = m.sizes; descriptors = m.descriptors })
    else Err InvalidValue

abbrev pub measure_end_described : Measured → Result Measured Error
measure_end_described m = end_described_in m.outer m

-- A list ends in a described value, and that ends in what is open here.
abbrev pub end_list_in : Open → Open → Measured → Size → Result Measured Error
end_list_in inner described m s =
    leave_in list (record { frame = described; outer = m.frame ∷ m.outer; sizes = m.sizes; descriptors = m.descriptors }) inner.index
    inner.form inner.content s >>= measure_end_described

abbrev pub end_composite_in : Open → Open → Measured → Result Measured Error
end_composite_in inner described m = size_of inner >>= end_list_in inner described m
