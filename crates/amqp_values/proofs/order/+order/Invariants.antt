use Rattle.std.proofs.Common.{◌≡◌, ◌≤◌, length, drop, map}
use Rattle.amqp_model.specs.Items.{terms_of}
use Rattle.amqp_values.specs.Values.{value_term}
use Rattle.amqp_values.specs.Equality.{turn_terms}
use Rattle.amqp_values.specs.Order.{terms_cmp}
use Rattle.amqp_values.proofs.order.+order.Given as goal

abbrev pub invariant-compare_rows-loop-index : goal.invariant-compare_rows-loop-index
invariant-compare_rows-loop-index l = record {
  within : l.index ≤ length l.right;
  left_over : terms_cmp (terms_of (map value_term (drop l.index l.left))) (terms_of (map value_term (drop l.index l.right)))
      ≡ terms_cmp (terms_of (map value_term l.left)) (terms_of (map value_term l.right));
}

abbrev pub invariant-compare_pairs-loop-index : goal.invariant-compare_pairs-loop-index
invariant-compare_pairs-loop-index l = record {
  within : l.index ≤ length l.others;
  left_over : terms_cmp (turn_terms (drop l.index l.pairs)) (turn_terms (drop l.index l.others))
      ≡ terms_cmp (turn_terms l.pairs) (turn_terms l.others);
}
