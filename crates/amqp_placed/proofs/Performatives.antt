-- The performatives but `Attach`, delivery states and errors (Part 2, sections 2.7 and 2.8.14, Part 3, section 3.4).
use Rattle.std.proofs.Common.{◌≡◌, ℕ}
use Rattle.amqp_wire.specs.declared.error.Error.{Error}
use Rattle.amqp_wire.specs.declared.error.Error.TheVariants.{DuplicateKey, UnknownNumber}
use Rattle.amqp_lookahead.specs.Kinds.{booleans, ushorts, uints, ulongs, binaries, strings, symbols}
use Rattle.amqp_decoder.specs.Primitives.{PrimitiveFault}
use Rattle.amqp_decoder.specs.Places.{Here}
use Rattle.amqp_codec.specs.PrimitiveTypes.{boolean_base, ubyte_base}
use Rattle.amqp_codec.specs.Composite.{composite}
use Rattle.amqp_codec.specs.Wrappers.{symbol_type}
use Rattle.amqp_containers.specs.Several.{multiple_faults}
use Rattle.amqp_values.specs.ValueType.{value_type}
use Rattle.amqp_restricted_types.specs.Transport.{role_numbers, receiver_settle_mode_numbers}
use Rattle.amqp_errors.specs.FieldsType.{fields_type}
use Rattle.amqp_errors.specs.Tables.{error}
use Rattle.amqp_delivery.specs.Tables.{outcomes, outcome, delivery_states, delivery_state}
use Rattle.amqp_performatives.specs.Tables.{opening, begin, flow, transfer, disposition, detach, ending, close}
use Rattle.amqp_placed.specs.Facing.{AreShown}
use Rattle.amqp_placed.specs.Shown.{FieldsShown}
use Rattle.amqp_placed.proofs.Primitives.{primitive_shown}
use Rattle.amqp_placed.proofs.Items.{map_shown}
use Rattle.amqp_placed.proofs.Composites.{composite_shown}
use Rattle.amqp_placed.proofs.Sums.{restricted_shown, sum_shown}
use Rattle.amqp_placed.proofs.Several.{multiple_shown}
use Rattle.amqp_placed.proofs.Values.{value_shown}

module _ (e : Error) (new : e ≡ DuplicateKey → ⊥) where
  pub basic : (k : ℕ) → AreShown e (Here (PrimitiveFault k))
  basic k st f is = primitive_shown k st f

  pub several : AreShown e (multiple_faults symbol_type).fault
  several = multiple_shown e symbol_type (basic symbols)

  pub held : AreShown e fields_type.faults.fault
  held = map_shown symbol_type value_type e new (basic symbols) (value_shown e new)

  pub error_shown : AreShown e (composite error).faults.fault
  error_shown = composite_shown e error (basic symbols, (basic strings, (held, tt)))

  pub outcome_shown : AreShown e outcome.faults.fault
  outcome_shown =
      sum_shown e outcomes
      (tt, ((error_shown, tt), (tt, ((basic booleans, (basic booleans, (held, tt))), ((basic binaries, tt), tt)))))

  pub state_shown : AreShown e delivery_state.faults.fault
  state_shown =
      sum_shown e delivery_states (
        (basic uints, (basic ulongs, tt)),
        (
          tt,
          (
            (error_shown, tt),
            (
              tt,
              (
                (basic booleans, (basic booleans, (held, tt))),
                ((basic binaries, tt), ((basic binaries, (outcome_shown, tt)), tt)),
              ),
            ),
          ),
        ),
      )

  pub open_fields : FieldsShown e opening.fields
  open_fields = (
    basic strings,
    (
      basic strings,
      (
        basic uints,
        (
          basic ushorts,
          (
            basic uints,
            (
              several,
              (
                several,
                (
                  several,
                  (
                    several,
                    (
                      held,
                      tt,
                    ),
                  ),
                ),
              ),
            ),
          ),
        ),
      ),
    ),
  )

  pub begin_fields : FieldsShown e begin.fields
  begin_fields =
      (basic ushorts, (basic uints, (basic uints, (basic uints, (basic uints, (several, (several, (held, tt))))))))

  pub flow_fields : FieldsShown e flow.fields
  flow_fields = (
    basic uints,
    (
      basic uints,
      (
        basic uints,
        (
          basic uints,
          (
            basic uints,
            (
              basic uints,
              (
                basic uints,
                (
                  basic uints,
                  (basic booleans, (basic booleans, (held, tt))),
                ),
              ),
            ),
          ),
        ),
      ),
    ),
  )

  pub transfer_fields : FieldsShown e transfer.fields
  transfer_fields = (
    basic uints,
    (
      basic uints,
      (
        basic binaries,
        (
          basic uints,
          (
            basic booleans,
            (
              basic booleans,
              (
                restricted_shown e ubyte_base UnknownNumber receiver_settle_mode_numbers tt,
                (
                  state_shown,
                  (
                    basic booleans,
                    (
                      basic booleans,
                      (basic booleans, tt),
                    ),
                  ),
                ),
              ),
            ),
          ),
        ),
      ),
    ),
  )

  pub disposition_fields : FieldsShown e disposition.fields
  disposition_fields = (
    restricted_shown e boolean_base UnknownNumber role_numbers tt,
    (
      basic uints,
      (
        basic uints,
        (
          basic booleans,
          (
            state_shown,
            (basic booleans, tt),
          ),
        ),
      ),
    ),
  )

  pub detach_fields : FieldsShown e detach.fields
  detach_fields =
      (basic uints, (basic booleans, (error_shown, tt)))

  pub end_fields : FieldsShown e ending.fields
  end_fields =
      (error_shown, tt)

  pub close_fields : FieldsShown e close.fields
  close_fields =
      (error_shown, tt)
