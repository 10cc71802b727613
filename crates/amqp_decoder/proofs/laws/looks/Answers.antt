use Rattle.amqp_decoder.proofs.Peeks
use Rattle.amqp_decoder.proofs.laws.looks.Goals as goal

pub returns : goal.returns
returns c = record {
  moved = Peeks.after_bytes-after_look;
  on = Peeks.after_data-after_look;
  past = Peeks.after_value-after_look;
  took = Peeks.took-looked;
  stands = Peeks.stands-looked;
  some = Peeks.stands_some;
  begun = Peeks.begun-peeked;
}
