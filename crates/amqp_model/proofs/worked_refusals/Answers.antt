use Rattle.amqp_model.proofs.worked_refusals.Goals as goal
use Rattle.amqp_model.proofs.Rows

pub returns : goal.returns
returns c = record {
  mixed_items = Rows.mixed_items;
  null_item = Rows.null_item;
  kept_item = Rows.kept_item;
  symbol_of_two_bytes = Rows.non_ascii_symbol;
  long_binary = Rows.long_binary;
  below_128_levels = Rows.deep;
  barred_item = Rows.barred_part;
  array_of_uints = Rows.uints_written;
  null_behind_uint = Rows.null_alone;
  kept_behind_uint = Rows.kept_unmixed;
  barred_behind_uint = Rows.barred_alone;
  null_under_the_descriptor = Rows.described_null_unmixed;
  null_under_a_descriptor = Rows.described_null_mixed;
}
