-- Sums of primitive types, and the headers and properties of messages (Part 3, sections 3.2.1, 3.2.4 and 3.2.11 to 3.2.14).
use Rattle.std.proofs.Common.{ℕ, zero, suc}
use Rattle.amqp_wire.specs.declared.error.Error.{Error}
use Rattle.amqp_lookahead.specs.Kinds.{booleans, ubytes, uints, ulongs, timestamps, uuids, binaries, strings, symbols}
use Rattle.amqp_decoder.specs.Primitives.{PrimitiveFault}
use Rattle.amqp_decoder.specs.Places.{Here}
use Rattle.amqp_codec.specs.Faults.{Faults}
use Rattle.amqp_codec.specs.Composite.{composite}
use Rattle.amqp_kinds.specs.declared.kind.Kind.{Kind}
use Rattle.amqp_kinds.specs.Kinds.{kind_at}
use Rattle.amqp_kinds.specs.KindReading.{KindFault, no_value, of_kind}
use Rattle.amqp_kinds.specs.KindMembers.{KindMembers, no_more, member, faults_at}
use Rattle.amqp_message_headers.specs.MessageIds.{id_members, id_place, message_id_type}
use Rattle.amqp_message_headers.specs.Tables.{header, properties}
use Rattle.amqp_placed.specs.Facing.{AreShown}
use Rattle.amqp_placed.proofs.Here.{begin_shown, peeked_shown}
use Rattle.amqp_placed.proofs.Primitives.{primitive_shown}
use Rattle.amqp_placed.proofs.Composites.{composite_shown}

-- Of each primitive type of a sum, that its faults are shown.
abbrev pub KindsShown : {V : Type 0} → Error → KindMembers V → Type 0
KindsShown e no_more = Unit {0}
KindsShown e (member m make ms) = AreShown e m.type.faults.fault × KindsShown e ms

module _ (e : Error) where
  kinds_shown : {V : Type 0} (ms : KindMembers V) → KindsShown e ms → (i : ℕ) → AreShown e (faults_at ms i).fault
  kinds_shown no_more shown i st f is h = absurd h
  kinds_shown (member m make ms) shown zero st f is h = shown.0 st f is h
  kinds_shown (member m make ms) shown (suc i) st f is h = kinds_shown ms shown.1 i st f is h

  pub kind_fault_shown : (faults : Kind → Faults) → ((k : Kind) → AreShown e (faults k).fault) → AreShown e (KindFault faults)
  kind_fault_shown faults shown st f is (no_value h) = begin_shown st f h
  kind_fault_shown faults shown st f is (of_kind {c} {mid} peeks h) =
      peeked_shown st c mid f peeks (shown (kind_at c) mid f is h)

  basic : (k : ℕ) → AreShown e (Here (PrimitiveFault k))
  basic k st f is = primitive_shown k st f

  pub message_id_shown : AreShown e message_id_type.faults.fault
  message_id_shown =
      kind_fault_shown (λ k. faults_at id_members (id_place k))
      (λ k. kinds_shown id_members (basic ulongs, (basic uuids, (basic binaries, (basic strings, tt)))) (id_place k))

  pub header_shown : AreShown e (composite header).faults.fault
  header_shown = composite_shown e header (basic booleans, (basic ubytes, (basic uints, (basic booleans, (basic uints, tt)))))

  pub properties_shown : AreShown e (composite properties).faults.fault
  properties_shown =
      composite_shown e properties (
        message_id_shown,
        (
          basic binaries,
          (
            basic strings,
            (
              basic strings,
              (
                basic strings,
                (
                  message_id_shown,
                  (
                    basic symbols,
                    (basic symbols, (basic timestamps, (basic timestamps, (basic strings, (basic uints, (basic strings, tt)))))),
                  ),
                ),
              ),
            ),
          ),
        ),
      )
