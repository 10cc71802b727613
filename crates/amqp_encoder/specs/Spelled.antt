-- Which bytes a call for a primitive is given.
use Rattle.std.specs.Prelude.{◌≡◌, ℕ, List}
use Rattle.amqp_model.specs.Term.{Primitive}
use Rattle.amqp_model.specs.Text.{Place, Alone, wide, spell, primitive_text}
use Rattle.amqp_encoder.specs.declared.places.Shortest.{Shortest}
use Rattle.amqp_encoder.specs.State.{Measured, Filled}
use Rattle.amqp_encoder.specs.Values.{shortest_text}
use Rattle.amqp_encoder.specs.Measuring.{measure_value, measure_put}
use Rattle.amqp_encoder.specs.Filling.{fill_value, fill_put}
use Rattle.amqp_encoder.specs.Gives.{variable_text, fill_bytes, measure_bytes}
use Rattle.std.specs.Prelude.{length}

-- A primitive of fixed width: how it stands by itself, and its code and its data in an array.
pub record IsFixed (p : Primitive) (s : Shortest) (w : List ℕ) : Type 0 where
  pub alone : primitive_text Alone p ≡ shortest_text s w
  pub in_array : spell (wide p) ≡ w
  pub measured : (m : Measured) → measure_put p m ≡ measure_value (wide p).0 (length (primitive_text m.frame.place p)) m
  pub filled : (f : Filled) → fill_put p f ≡ fill_value (primitive_text f.place p) f

-- Bytes behind their length, with their two codes.
pub record IsVariable (p : Primitive) (short wide_ : ℕ) (s : List ℕ) : Type 0 where
  pub text : (place : Place) → primitive_text place p ≡ variable_text place short wide_ s
  pub measured : (m : Measured) → measure_put p m ≡ measure_bytes wide_ (length s) m
  pub filled : (f : Filled) → fill_put p f ≡ fill_bytes short wide_ s f
