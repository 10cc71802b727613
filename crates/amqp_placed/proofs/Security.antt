-- The composites of the security layer (Part 5, section 5.3.3).
use Rattle.amqp_wire.specs.declared.error.Error.{Error}
use Rattle.amqp_lookahead.specs.Kinds.{binaries, strings, symbols}
use Rattle.amqp_codec.specs.PrimitiveTypes.{ubyte_base}
use Rattle.amqp_codec.specs.Composite.{composite}
use Rattle.amqp_codec.specs.Wrappers.{symbol_type}
use Rattle.amqp_restricted_types.specs.Security.{sasl_code_numbers}
use Rattle.amqp_sasl.specs.Tables.{sasl_mechanisms, sasl_init, sasl_challenge, sasl_response, sasl_outcome}
use Rattle.amqp_wire.specs.declared.error.Error.TheVariants.{UnknownNumber}
use Rattle.amqp_placed.specs.Facing.{AreShown}
use Rattle.amqp_placed.proofs.Primitives.{primitive_shown}
use Rattle.amqp_placed.proofs.Composites.{composite_shown}
use Rattle.amqp_placed.proofs.Sums.{restricted_shown}
use Rattle.amqp_placed.proofs.Several.{mandatory_shown}

module _ (e : Error) where
  pub mechanisms_shown : AreShown e (composite sasl_mechanisms).faults.fault
  mechanisms_shown = composite_shown e sasl_mechanisms (
    mandatory_shown e symbol_type
        (λ st f is. primitive_shown symbols st f),
    tt,
  )

  pub init_shown : AreShown e (composite sasl_init).faults.fault
  init_shown = composite_shown e sasl_init (
    (λ st f is. primitive_shown symbols st f),
    (
      (λ st f is. primitive_shown binaries st f),
      ((λ st f is. primitive_shown strings st f), tt),
    ),
  )

  pub challenge_shown : AreShown e (composite sasl_challenge).faults.fault
  challenge_shown = composite_shown e sasl_challenge ((λ st f is. primitive_shown binaries st f), tt)

  pub response_shown : AreShown e (composite sasl_response).faults.fault
  response_shown = composite_shown e sasl_response ((λ st f is. primitive_shown binaries st f), tt)

  pub outcome_shown : AreShown e (composite sasl_outcome).faults.fault
  outcome_shown = composite_shown e sasl_outcome
      (restricted_shown e ubyte_base UnknownNumber sasl_code_numbers tt, ((λ st f is. primitive_shown binaries st f), tt))
