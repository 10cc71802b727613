-- The errors of reading and writing, and the conditions of errors (Part 2, section 2.8.15). It defines nothing.
pub use Rattle.amqp_wire.specs.Error.{number_of, name_of}
pub use Rattle.amqp_wire.specs.Refusals.{error_of}
pub use Rattle.amqp_errors.specs.Conditions.{IsUnlisted, IsNormal, norm_condition}
pub use Rattle.amqp_errors.specs.Tables.{alone}
