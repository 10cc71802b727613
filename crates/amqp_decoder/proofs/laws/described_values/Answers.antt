use Rattle.amqp_decoder.proofs.Descriptions.{described_with_parts, described_term, term_described}
use Rattle.amqp_decoder.proofs.laws.described_values.Goals as goal

pub returns : goal.returns
returns c = record {
  whole = λ st after d t. described_term st d t after;
  stands = λ st after d t. described_with_parts st d t after;
  parts = λ st after d t. term_described st d t after;
}
