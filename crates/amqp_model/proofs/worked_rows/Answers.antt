use Rattle.std.proofs.Common.{refl}
use Rattle.amqp_model.specs.Text.{text, texts}
use Rattle.amqp_model.proofs.worked_rows.Goals as goal
use Rattle.amqp_model.proofs.Rows

pub returns : goal.returns
unfolding text texts
returns c = record {
  uint_0 = refl;
  uint_255 = refl;
  uint_256 = refl;
  int_least = refl;
  int_128 = refl;
  list_of_252 = Rows.binary_252;
  list_of_253 = Rows.binary_253;
  array_of_uints = refl;
  array_of_accepted = refl;
  array_of_list = refl;
  empty_map = refl;
  empty_array = refl;
  empty_array_bare = Rows.empty_array_short;
  empty_array_typed = Rows.empty_array_typed;
  no_items_of_width_zero = Rows.width_zero;
  empty_list_sized = Rows.empty_list_sized;
  no_map_of_size_zero = Rows.empty_size;
}
