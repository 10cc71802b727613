-- The tables of the security layer (Part 5, section 5.3.3).
use Rattle.amqp_sums.specs.Types.{codes, refl, string_type, symbol_type, mandatory, optional, none, field, ◌▸◌, plain, Table}
use Rattle.amqp_containers.specs.MultipleFields.{mandatory_multiple}
use Rattle.amqp_primitives.specs.Types.{binary_type}
use Rattle.amqp_restricted_types.specs.Security.{sasl_code_type}
use Rattle.amqp_sasl.specs.declared.sasl_mechanisms.SaslMechanisms.{SaslMechanisms}
use Rattle.amqp_sasl.specs.declared.sasl_init.SaslInit.{SaslInit}
use Rattle.amqp_sasl.specs.declared.sasl_challenge.SaslChallenge.{SaslChallenge}
use Rattle.amqp_sasl.specs.declared.sasl_response.SaslResponse.{SaslResponse}
use Rattle.amqp_sasl.specs.declared.sasl_outcome.SaslOutcome.{SaslOutcome}

-- Part 5, section 5.3.3.1
abbrev pub sasl_mechanisms : Table SaslMechanisms
sasl_mechanisms = plain 0x40 (codes "amqp:sasl-mechanisms:list")
    (field (λ v. v.sasl_server_mechanisms) (mandatory_multiple symbol_type refl refl (λ v. tt))
    ▸ none)
    refl refl

-- Part 5, section 5.3.3.2
abbrev pub sasl_init : Table SaslInit
sasl_init = plain 0x41 (codes "amqp:sasl-init:list")
    (field (λ v. v.mechanism) (mandatory symbol_type refl refl)
    ▸ field (λ v. v.initial_response) (optional binary_type refl refl)
    ▸ field (λ v. v.hostname) (optional string_type refl refl)
    ▸ none)
    refl refl

-- Part 5, section 5.3.3.3
abbrev pub sasl_challenge : Table SaslChallenge
sasl_challenge = plain 0x42 (codes "amqp:sasl-challenge:list")
    (field (λ v. v.challenge) (mandatory binary_type refl refl)
    ▸ none)
    refl refl

-- Part 5, section 5.3.3.4
abbrev pub sasl_response : Table SaslResponse
sasl_response = plain 0x43 (codes "amqp:sasl-response:list")
    (field (λ v. v.response) (mandatory binary_type refl refl)
    ▸ none)
    refl refl

-- Part 5, section 5.3.3.5
abbrev pub sasl_outcome : Table SaslOutcome
sasl_outcome = plain 0x44 (codes "amqp:sasl-outcome:list")
    (field (λ v. v.code) (mandatory sasl_code_type refl refl)
    ▸ field (λ v. v.additional_data) (optional binary_type refl refl)
    ▸ none)
    refl refl
