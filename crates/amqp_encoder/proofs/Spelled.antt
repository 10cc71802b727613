-- The bytes of primitives, as the calls for them are given.
use Rattle.std.proofs.Common.{◌≡◌, ℕ, ◌+◌, List, length, drop, get_or, refl, sym, ◌∙◌, ap, arith, Bool, true, false, cond}
use Rattle.std.specs.Prelude.{if◌then◌else◌, ltb, Ok, Err}
use Rattle.amqp_wire.specs.declared.error.Error.TheVariants.{TooLarge}
use Rattle.amqp_model.specs.Term.{Primitive, binary, string, symbol}
use Rattle.amqp_model.specs.Text.{Place, Alone, First, Later, wide, spell, with_size, primitive_text}
use Rattle.amqp_encoder.specs.declared.places.Shortest.{Shortest}
use Rattle.amqp_encoder.specs.State.{Measured, Filled}
use Rattle.amqp_encoder.specs.Measuring.{◌>>=◌, short_enough, checked, measure_value, measure_put}
use Rattle.amqp_encoder.specs.Filling.{fill_value, fill_put}
use Rattle.amqp_encoder.specs.Gives.{fixed_text, variable_text, variable_length, measure_symbol, fill_bytes}
use Rattle.amqp_encoder.specs.Spelled.{IsFixed, IsVariable}

-- fixed width

fixed_is : (place : Place) (p : Primitive) (s : Shortest) (w : List ℕ) → IsFixed p s w → primitive_text place p ≡ fixed_text place s w
fixed_is Alone p s w h = h.alone
fixed_is First p s w h = h.in_array
fixed_is Later p s w h = ap (drop 1) h.in_array

pub measured_fixed : (p : Primitive) (s : Shortest) (w : List ℕ) (c : ℕ) (m : Measured) → IsFixed p s w → c ≡ get_or w 0 0 →
    measure_value c (length (fixed_text m.frame.place s w)) m ≡ measure_put p m
measured_fixed p s w c m h first =
    let code : c ≡ (wide p).0 = first ∙ ap (λ l. get_or l 0 0) (sym h.in_array) in
    rw (code, ← fixed_is m.frame.place p s w h) (sym (h.measured m))

pub filled_fixed : (p : Primitive) (s : Shortest) (w : List ℕ) (f : Filled) → IsFixed p s w
    → fill_value (fixed_text f.place s w) f ≡ fill_put p f
filled_fixed p s w f h = ap (λ b. fill_value b f) (sym (fixed_is f.place p s w h)) ∙ sym (h.filled f)

-- bytes behind their length

plain_length : (b : Bool) (short wide_ : ℕ) (s : List ℕ)
    → length (spell (cond b (short, with_size 1 s) (wide_, with_size 4 s))) ≡ (if b then 2 + length s else 5 + length s)
plain_length true short wide_ s = omega arith
plain_length false short wide_ s = omega arith

text_length : (place : Place) (short wide_ : ℕ) (s : List ℕ) → length (variable_text place short wide_ s) ≡ variable_length place (length s)
text_length Alone short wide_ s = plain_length (ltb (length s) 256) short wide_ s
text_length First short wide_ s = omega arith
text_length Later short wide_ s = omega arith

binary_text : (s : List ℕ) (place : Place) → primitive_text place (binary s) ≡ variable_text place 0xa0 0xb0 s
binary_text s Alone = refl
binary_text s First = refl
binary_text s Later = refl

string_text : (s : List ℕ) (place : Place) → primitive_text place (string s) ≡ variable_text place 0xa1 0xb1 s
string_text s Alone = refl
string_text s First = refl
string_text s Later = refl

symbol_text : (s : List ℕ) (place : Place) → primitive_text place (symbol s) ≡ variable_text place 0xa3 0xb3 s
symbol_text s Alone = refl
symbol_text s First = refl
symbol_text s Later = refl

known_length : (p : Primitive) (short wide_ : ℕ) (s : List ℕ) (place : Place) → primitive_text place p ≡ variable_text place short wide_ s →
    length (primitive_text place p) ≡ variable_length place (length s)
known_length p short wide_ s place e = ap length e ∙ text_length place short wide_ s

after_test : (b : Bool) (s : List ℕ) (c n l : ℕ) (m : Measured) → n ≡ l →
    ((if b then Err TooLarge else Ok (tt {0})) >>= λ _. measure_value c n m) ≡ (if b then Err TooLarge else measure_value c l m)
after_test true s c n l m e = refl
after_test false s c n l m e = ap (λ k. measure_value c k m) e

pub is_binary : (s : List ℕ) → IsVariable (binary s) 0xa0 0xb0 s
is_binary s = record {
  text = binary_text s;
  measured = (λ m. after_test (ltb 0xffff_ffff (length s)) s 0xb0 _ _ m
      (known_length (binary s) 0xa0 0xb0 s m.frame.place (binary_text s m.frame.place)));
  filled = (λ f. ap (λ b. short_enough s >>= λ _. fill_value b f) (binary_text s f.place));
}

pub is_string : (s : List ℕ) → IsVariable (string s) 0xa1 0xb1 s
is_string s = record {
  text = string_text s;
  measured = (λ m. after_test (ltb 0xffff_ffff (length s)) s 0xb1 _ _ m
      (known_length (string s) 0xa1 0xb1 s m.frame.place (string_text s m.frame.place)));
  filled = (λ f. ap (λ b. short_enough s >>= λ _. fill_value b f) (string_text s f.place));
}

pub measured_symbol : (s : List ℕ) (m : Measured) → measure_symbol 0xb3 s m ≡ measure_put (symbol s) m
measured_symbol s m =
    ap (λ n. checked (symbol s) >>= λ _. measure_value 0xb3 n m)
    (sym (known_length (symbol s) 0xa3 0xb3 s m.frame.place (symbol_text s m.frame.place)))

pub filled_symbol : (s : List ℕ) (f : Filled) → fill_bytes 0xa3 0xb3 s f ≡ fill_put (symbol s) f
filled_symbol s f = ap (λ b. short_enough s >>= λ _. fill_value b f) (sym (symbol_text s f.place))
