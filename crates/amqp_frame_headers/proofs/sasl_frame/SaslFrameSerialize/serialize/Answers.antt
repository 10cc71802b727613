use Rattle.std.proofs.Common.{refl}
use Rattle.amqp_frame_headers.specs.declared.sasl_frame.SaslFrame.TheVariants as sasl_frame
use Rattle.amqp_frame_headers.proofs.sasl_frame.SaslFrameSerialize.serialize.Goals as goal

pub returns-in-Mechanisms : goal.returns-in-Mechanisms
returns-in-Mechanisms g c = c.write_as.ensures.written (sasl_frame.Mechanisms c.in-Mechanisms.mechanisms) c.in-Mechanisms.is refl

pub returns-in-Init : goal.returns-in-Init
returns-in-Init g c = c.write_as-in-Init.ensures.written (sasl_frame.Init c.in-Init.init) c.in-Init.is refl

pub returns-in-Challenge : goal.returns-in-Challenge
returns-in-Challenge g c = c.write_as-in-Challenge.ensures.written (sasl_frame.Challenge c.in-Challenge.challenge) c.in-Challenge.is refl

pub returns-in-Response : goal.returns-in-Response
returns-in-Response g c = c.write_as-in-Response.ensures.written (sasl_frame.Response c.in-Response.response) c.in-Response.is refl

pub returns-in-Outcome : goal.returns-in-Outcome
returns-in-Outcome g c = c.write_as-in-Outcome.ensures.written (sasl_frame.Outcome c.in-Outcome.outcome) c.in-Outcome.is refl
