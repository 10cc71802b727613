use Rattle.amqp_frame_headers.proofs.sasl_frame.SaslFrameSerialize.in_type.Goals as goal

pub returns-in-Mechanisms : goal.returns-in-Mechanisms
returns-in-Mechanisms c = rw c.in-Mechanisms.is c.in_type.ensures

pub returns-in-Init : goal.returns-in-Init
returns-in-Init c = rw c.in-Init.is c.in_type-in-Init.ensures

pub returns-in-Challenge : goal.returns-in-Challenge
returns-in-Challenge c = rw c.in-Challenge.is c.in_type-in-Challenge.ensures

pub returns-in-Response : goal.returns-in-Response
returns-in-Response c = rw c.in-Response.is c.in_type-in-Response.ensures

pub returns-in-Outcome : goal.returns-in-Outcome
returns-in-Outcome c = rw c.in-Outcome.is c.in_type-in-Outcome.ensures
