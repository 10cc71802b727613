-- Termini, `Attach` and any performative (Part 2, section 2.7, and Part 3, section 3.5).
use Rattle.std.proofs.Common.{◌≡◌}
use Rattle.amqp_wire.specs.declared.error.Error.{Error}
use Rattle.amqp_wire.specs.declared.error.Error.TheVariants.{DuplicateKey, UnknownNumber, UnknownText}
use Rattle.amqp_lookahead.specs.Kinds.{booleans, uints, ulongs, binaries, strings}
use Rattle.amqp_codec.specs.PrimitiveTypes.{boolean_base, ubyte_base, uint_base, symbol_base}
use Rattle.amqp_codec.specs.Composite.{composite}
use Rattle.amqp_codec.specs.OptionType.{option_of}
use Rattle.amqp_primitives.specs.Types.{binary_type}
use Rattle.amqp_restricted_types.specs.Transport.{role_numbers, sender_settle_mode_numbers, receiver_settle_mode_numbers}
use Rattle.amqp_restricted_types.specs.Transactions.{txn_capability_type, txn_capability_texts}
use Rattle.amqp_restricted_types.specs.Termini.{terminus_durability_numbers, terminus_expiry_policy_texts, distribution_mode_texts}
use Rattle.amqp_delivery.specs.Tables.{delivery_state}
use Rattle.amqp_lifetimes.specs.Tables.{lifetime_policies, lifetime_policy}
use Rattle.amqp_termini.specs.Tables.{source, target, coordinator, target_archetypes, target_archetype}
use Rattle.amqp_attach.specs.Tables.{unsettled_type, attach, performatives, performative}
use Rattle.amqp_placed.specs.Facing.{AreShown}
use Rattle.amqp_placed.specs.Shown.{FieldsShown}
use Rattle.amqp_placed.proofs.Items.{map_shown}
use Rattle.amqp_placed.proofs.Formers.{option_shown}
use Rattle.amqp_placed.proofs.Composites.{composite_shown}
use Rattle.amqp_placed.proofs.Sums.{restricted_shown, sum_shown}
use Rattle.amqp_placed.proofs.Several.{multiple_shown}
use Rattle.amqp_placed.proofs.Performatives as of
use Rattle.amqp_placed.proofs.Performatives.{open_fields, begin_fields, flow_fields, transfer_fields, disposition_fields, detach_fields}
use Rattle.amqp_placed.proofs.Performatives.{end_fields, close_fields, outcome_shown, state_shown}

module _ (e : Error) (new : e ≡ DuplicateKey → ⊥) where
  source_fields : FieldsShown e source.fields
  source_fields = (
    of.basic e new strings,
    (
      restricted_shown e uint_base UnknownNumber terminus_durability_numbers tt,
      (
        restricted_shown e symbol_base UnknownText terminus_expiry_policy_texts tt,
        (
          of.basic e new uints,
          (
            of.basic e new booleans,
            (
              of.held e new,
              (
                restricted_shown e symbol_base UnknownText distribution_mode_texts tt,
                (
                  of.held e new,
                  (outcome_shown e new, (of.several e new, (of.several e new, tt))),
                ),
              ),
            ),
          ),
        ),
      ),
    ),
  )

  target_fields : FieldsShown e target.fields
  target_fields = (
    of.basic e new strings,
    (
      restricted_shown e uint_base UnknownNumber terminus_durability_numbers tt,
      (
        restricted_shown e symbol_base UnknownText terminus_expiry_policy_texts tt,
        (
          of.basic e new uints,
          (
            of.basic e new booleans,
            (
              of.held e new,
              (of.several e new, tt),
            ),
          ),
        ),
      ),
    ),
  )

  coordinator_fields : FieldsShown e coordinator.fields
  coordinator_fields =
      (multiple_shown e txn_capability_type (restricted_shown e symbol_base UnknownText txn_capability_texts tt), tt)

  pub source_shown : AreShown e (composite source).faults.fault
  source_shown = composite_shown e source source_fields

  pub target_shown : AreShown e (composite target).faults.fault
  target_shown = composite_shown e target target_fields

  pub coordinator_shown : AreShown e (composite coordinator).faults.fault
  coordinator_shown = composite_shown e coordinator coordinator_fields

  pub lifetime_shown : AreShown e lifetime_policy.faults.fault
  lifetime_shown = sum_shown e lifetime_policies (tt, (tt, (tt, (tt, tt))))

  pub archetype_shown : AreShown e target_archetype.faults.fault
  archetype_shown = sum_shown e target_archetypes (target_fields, (coordinator_fields, tt))

  unsettled_shown : AreShown e unsettled_type.faults.fault
  unsettled_shown =
      map_shown binary_type (option_of delivery_state) e new (of.basic e new binaries)
      (option_shown e delivery_state.faults.fault (state_shown e new))

  attach_fields : FieldsShown e attach.fields
  attach_fields = (
    of.basic e new strings,
    (
      of.basic e new uints,
      (
        restricted_shown e boolean_base UnknownNumber role_numbers tt,
        (
          restricted_shown e ubyte_base UnknownNumber sender_settle_mode_numbers tt,
          (
            restricted_shown e ubyte_base UnknownNumber receiver_settle_mode_numbers tt,
            (
              source_shown,
              (
                archetype_shown,
                (
                  unsettled_shown,
                  (
                    of.basic e new booleans,
                    (
                      of.basic e new uints,
                      (
                        of.basic e new ulongs,
                        (
                          of.several e new,
                          (
                            of.several e new,
                            (of.held e new, tt),
                          ),
                        ),
                      ),
                    ),
                  ),
                ),
              ),
            ),
          ),
        ),
      ),
    ),
  )

  pub attach_shown : AreShown e (composite attach).faults.fault
  attach_shown = composite_shown e attach attach_fields

  pub performative_shown : AreShown e performative.faults.fault
  performative_shown =
      sum_shown e performatives (
        open_fields e new,
        (
          begin_fields e new,
          (
            attach_fields,
            (
              flow_fields e new,
              (
                transfer_fields e new,
                (
                  disposition_fields e new,
                  (
                    detach_fields e new,
                    (end_fields e new, (close_fields e new, tt)),
                  ),
                ),
              ),
            ),
          ),
        ),
      )
