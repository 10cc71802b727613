-- What the calls of an encoder write, file by file: a type that is written by calls of its own cites these. It defines nothing.
pub use Rattle.amqp_encoder.specs.State
pub use Rattle.amqp_encoder.specs.Tokens
pub use Rattle.amqp_encoder.specs.Values
pub use Rattle.amqp_encoder.specs.Opening
pub use Rattle.amqp_encoder.specs.Measuring
pub use Rattle.amqp_encoder.specs.Filling
pub use Rattle.amqp_encoder.specs.Writes
pub use Rattle.amqp_encoder.specs.Gives
pub use Rattle.amqp_encoder.specs.Passes
pub use Rattle.amqp_encoder.specs.Spelled
pub use Rattle.amqp_encoder.specs.Enclosed
pub use Rattle.amqp_encoder.specs.Reasons
pub use Rattle.amqp_encoder.specs.Refused
pub use Rattle.amqp_encoder.specs.Sound
