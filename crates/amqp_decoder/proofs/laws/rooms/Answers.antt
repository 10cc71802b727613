use Rattle.amqp_decoder.proofs.Rooms.{room_at_top, room_fits, room_looked, room_next, room_row, room_inside, room_in_array}
use Rattle.amqp_decoder.proofs.Rooms.{room_in_described}
use Rattle.amqp_decoder.proofs.laws.rooms.Goals as goal

pub returns : goal.returns
returns c = record {
  top = room_at_top;
  fits = room_fits;
  looked = room_looked;
  next = λ st after t. room_next st t after;
  row = λ ts st after b. room_row ts st b after;
  opened = λ kind st after n. room_inside kind st n after;
  opened_array = λ st after n. room_in_array st n after;
  opened_described = λ st after d. room_in_described st d after;
}
