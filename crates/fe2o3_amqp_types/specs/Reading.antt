-- What is read from bytes and from readers, and within limits. It defines nothing.
pub use Rattle.amqp_wire.specs.Sources.{known, IsTold, Tells, AddsNext}
pub use Rattle.amqp_wire.specs.Limits.{unlimited, limit_of}
pub use Rattle.amqp_decoder.specs.State.{State, Has}
pub use Rattle.amqp_decoder.specs.Steps.{IsReadError}
pub use Rattle.amqp_decoder.specs.Misspelled.{IsMisspelling}
pub use Rattle.amqp_codec.specs.Reading.{Reading, BeginsWith, BeginsWithin, IsUnreadable, IsUnreadableWithin, HasFaultAt, IsFaultyAt}
pub use Rattle.amqp_codec.specs.Reading.{IsUnspelled, IsUnspelledWithin, greatest, IsGreatest, start, start_within}
pub use Rattle.amqp_codec.specs.TermReading.{reading_of}
pub use Rattle.amqp_codec.specs.Spelled.{IsSpelled}
