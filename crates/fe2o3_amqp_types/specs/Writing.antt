-- What is written, and what is written again after it was read. It defines nothing.
pub use Rattle.amqp_encoder.specs.Passes.{row_text}
pub use Rattle.amqp_encoder.specs.Reasons.{HasReason}
pub use Rattle.amqp_encoder.specs.Refused.{TermHasCause}
pub use Rattle.amqp_codec.specs.Written.{Writing, IsOneTerm, canon_of, WritesTerms, AreProper, AreTooDeep, AreWritable, AreUnwritable}
pub use Rattle.amqp_codec.specs.Spelled.{written, IsWritable}
pub use Rattle.amqp_codec.specs.Rewriting.{Rewriting, HoldNoArray}
pub use Rattle.amqp_read_write.specs.Rewritten.{IsRewritten, IsRewrittenWithin, IsReadAgain, AreReadAgain, IsOneText, IsOfNoOther}
pub use Rattle.amqp_read_write.specs.Rewritten.{IsUnchanged, IsShortest, AreShortest, IsUnwritten, IsUnwrittenWithin}
pub use Rattle.amqp_read_write.specs.Room.{IsPlaced, StandsIn, HasNoRoom}
