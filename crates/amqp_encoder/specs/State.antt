-- What is seen of an encoder that measures, and of one that fills.
use Rattle.std.specs.Prelude.{ℕ, List, [], Option, Some, None}
use Rattle.amqp_model.specs.Term.{Container, list}
use Rattle.amqp_model.specs.Text.{Place, first_place}
use Rattle.amqp_wire.specs.declared.error.Error.{Error}
use Rattle.amqp_encoder.specs.declared.size.Size.{Size}
use Rattle.amqp_encoder.specs.declared.frame.MeasuredContainer.{MeasuredContainer}
use Rattle.amqp_encoder.specs.Values.{opened_of, place_of}

-- An open container, or a described value (of no container): where its next value stands, the code of the items of the array
-- that the next value is an item of, the bytes and the number of its values, its place among the sizes,
-- and where the next value's constructor goes on among the descriptors.
pub record Open : Type 0 where
  pub container : Option Container
  pub place : Place
  pub code : ℕ
  pub content : ℕ
  pub count : ℕ
  pub index : ℕ
  pub form : ℕ

abbrev pub seen : MeasuredContainer → Open
seen f = record {
  container = opened_of f.opened;
  place = place_of f.place;
  code = f.code;
  content = f.content;
  count = f.count;
  index = f.index;
  form = f.form;
}

abbrev pub holding : Container → ℕ → ℕ → Open
holding k index form = record { container = Some k; place = first_place k; code = 0; content = 0; count = 0; index = index; form = form }

abbrev pub describing : Open → ℕ → ℕ → Open
describing o content form = record { container = None; place = o.place; code = o.code; content = content; count = 0; index = 0; form = form }

-- What is around comes innermost first. The sizes are those of each container that has begun, the descriptors those of the
-- items of the arrays that are open, in canonical form, outermost array first.
pub record Measured : Type 0 where
  pub frame : Open
  pub outer : List Open
  pub sizes : List Size
  pub descriptors : List ℕ

-- The sizes are those of each container that is still to come. The loan is the name of that of the caller's memory, or 0 of a buffer.
pub record Filled : Type 0 where
  pub place : Place
  pub outer : List Place
  pub sizes : List Size
  pub out : List ℕ
  pub limit : ℕ
  pub loan : ℕ

-- What is seen of an encoder: it measures, or it fills, or it has refused for this reason.
pub data Pass : Type 0 where
  Measuring : Measured → Pass
  Filling : Filled → Pass
  Stopped : Error → Pass

-- An encoder's value: what is seen of it, and the buffer's bytes, which are also those of the pass as long as it fills.
pub record Encoder : Type 0 where
  pub pass : Pass
  pub buffer : List ℕ

abbrev pub at_start : Measured
at_start = record { frame = holding list 0 0; outer = []; sizes = []; descriptors = [] }

abbrev pub to_fill : List Size → List ℕ → ℕ → ℕ → Filled
to_fill sizes out limit loan = record { place = first_place list; outer = []; sizes = sizes; out = out; limit = limit; loan = loan }
