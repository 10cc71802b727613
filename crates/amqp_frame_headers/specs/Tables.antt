-- The SASL types as one type (Part 5, section 5.3.1).
use Rattle.amqp_sums.specs.Types.{inl, inr, refl, TermType, Choices, no_more, member, Chosen, SumOf, sum_of}
use Rattle.amqp_sasl.specs.Tables.{sasl_mechanisms, sasl_init, sasl_challenge, sasl_response, sasl_outcome}
use Rattle.amqp_frame_headers.specs.declared.sasl_frame.SaslFrame.{SaslFrame}
use Rattle.amqp_frame_headers.specs.declared.sasl_frame.SaslFrame.TheVariants as sasl_frame_of

-- The SASL types in their order, and the one that a value is.
abbrev pub choices_of_sasl_frames : Choices SaslFrame
choices_of_sasl_frames =
    member sasl_mechanisms sasl_frame_of.Mechanisms
    (member sasl_init sasl_frame_of.Init
    (member sasl_challenge sasl_frame_of.Challenge
    (member sasl_response sasl_frame_of.Response
    (member sasl_outcome sasl_frame_of.Outcome
    no_more))))

abbrev pub sasl_frame_chosen : (v : SaslFrame) → Chosen choices_of_sasl_frames v
sasl_frame_chosen (sasl_frame_of.Mechanisms v) = (inl v, refl)
sasl_frame_chosen (sasl_frame_of.Init v) = (inr (inl v), refl)
sasl_frame_chosen (sasl_frame_of.Challenge v) = (inr (inr (inl v)), refl)
sasl_frame_chosen (sasl_frame_of.Response v) = (inr (inr (inr (inl v))), refl)
sasl_frame_chosen (sasl_frame_of.Outcome v) = (inr (inr (inr (inr (inl v)))), refl)

-- Part 5, section 5.3.1: the body of a SASL frame is the type whose descriptor comes first
abbrev pub sasl_frames : SumOf SaslFrame
sasl_frames = record {
  choices = choices_of_sasl_frames;
  choice = sasl_frame_chosen;
  apart = refl;
  chosen = (λ v. refl, (λ v. refl, (λ v. refl, (λ v. refl, (λ v. refl, tt)))));
}

abbrev pub sasl_frame : TermType SaslFrame
sasl_frame = sum_of sasl_frames
