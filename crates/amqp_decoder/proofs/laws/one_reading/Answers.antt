use Rattle.amqp_decoder.proofs.OneReading.{stands_same, next_same, row_front, closes_same}
use Rattle.amqp_decoder.proofs.Opening.{opens_same}
use Rattle.amqp_decoder.proofs.ArrayTerms.{opens_array_same}
use Rattle.amqp_decoder.proofs.laws.one_reading.Goals as goal

pub returns : goal.returns
returns c = record {
  stands = stands_same;
  next = next_same;
  row = row_front;
  opens = λ kind st a b n m. opens_same kind st n m a b;
  opens_array = λ st a b n m. opens_array_same st n m a b;
  closes = closes_same;
}
