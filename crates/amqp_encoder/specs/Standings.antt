-- How an encoder stands.
use Rattle.std.specs.Prelude.{List, ℕ}
use Rattle.amqp_wire.specs.declared.error.Error.{Error}
use Rattle.amqp_encoder.specs.declared.encoder.Standing.{Standing}
use Rattle.amqp_encoder.specs.declared.encoder.Standing.TheVariants as standing
use Rattle.amqp_encoder.specs.State.{Pass, Stopped, Encoder}
use Rattle.amqp_encoder.specs.Writes.{IsPlain}

abbrev pub pass_under : Standing → Error → Pass → Pass
pass_under standing.Plain e s = s
pass_under standing.Going e s = s
pass_under standing.Refused e s = Stopped e

abbrev pub encoder_of : Standing → Error → Pass → List ℕ → Encoder
encoder_of k e s out = record { pass = pass_under k e s; buffer = out }

-- a value by itself may come where it says so
abbrev pub StandsFor : Standing → Pass → Type 0
StandsFor standing.Plain s = IsPlain s
StandsFor standing.Going s = Unit {0}
StandsFor standing.Refused s = Unit {0}
