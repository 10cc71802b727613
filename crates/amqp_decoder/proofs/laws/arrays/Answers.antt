use Rattle.amqp_decoder.proofs.ArrayTerms.{opened_items, whole_array, whole_array_with_parts, array_parts}
use Rattle.amqp_decoder.proofs.Rooms.{room_for_array}
use Rattle.amqp_decoder.proofs.laws.arrays.Goals as goal

pub returns : goal.returns
returns c = record {
  opened = λ st after n. opened_items st n after;
  whole = λ st after items. whole_array st items after;
  stands = λ st after items. whole_array_with_parts st items after;
  parts = λ st after items room next. array_parts st items after (room_for_array st items next.bytes room next.stands) next;
}
