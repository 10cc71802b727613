-- The same state before another source, and what stays the same there. It defines nothing.
pub use Rattle.amqp_decoder.specs.OtherSource.{Setting, freed, lifted, under, another, elsewhere, IsByDepth, KeepsError}
pub use Rattle.amqp_decoder.specs.laws.OtherSource.{freed_kept, unlifted, keeps_another, saved_same, taken_past, begun, peeked, stands, value}
pub use Rattle.amqp_decoder.specs.laws.OtherSource.{begin_fault, primitive_fault, opens, open_fault, end_fault, closes, close_fault}
pub use Rattle.amqp_decoder.specs.laws.OtherSource.{opens_described, one_of_fault, open_described_fault, opens_array, array_fault, term_fault}
pub use Rattle.amqp_decoder.specs.laws.OtherSource.{one_of_placed, open_described_placed, array_placed, term_placed}
