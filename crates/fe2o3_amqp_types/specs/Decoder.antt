-- What the calls of a decoder read, file by file: a type that is read by calls of its own cites these. It defines nothing.
pub use Rattle.amqp_lookahead.specs.Kinds
pub use Rattle.amqp_lookahead.specs.Members
pub use Rattle.amqp_decoder.specs.State
pub use Rattle.amqp_decoder.specs.Steps
pub use Rattle.amqp_decoder.specs.Within
pub use Rattle.amqp_decoder.specs.Reading
pub use Rattle.amqp_decoder.specs.Primitives
pub use Rattle.amqp_decoder.specs.Containers
pub use Rattle.amqp_decoder.specs.Arrays
pub use Rattle.amqp_decoder.specs.Rooms
pub use Rattle.amqp_decoder.specs.Described
pub use Rattle.amqp_decoder.specs.Items
pub use Rattle.amqp_decoder.specs.Row
pub use Rattle.amqp_decoder.specs.Sections
pub use Rattle.amqp_decoder.specs.Terms
pub use Rattle.amqp_decoder.specs.Misspelled
pub use Rattle.fe2o3_amqp_types.specs.OtherSource
